use Rattle.std.proofs.Common.{◌≡◌, ◌<◌, ℕ, [], length}
use Rattle.std.specs.Prelude.{slice_index_or}
use Rattle.rcv_session.specs.Session.{roles_of, net_for}
use Rattle.rcv_core.specs.Book.{state_of}
use Rattle.rcv_costs.specs.Losses.{HaveReceivedFrom}
use Rattle.rcv_costs.proofs.losses.received.Given as goal

abbrev pub invariant-loop-from : goal.invariant-loop-from
invariant-loop-from l = record {
  eight : length l.received ≡ 8;
  done : (s : ℕ) → s < l.from → HaveReceivedFrom (net_for l.book.setup) (roles_of l.book.setup) (state_of l.book).kept s (slice_index_or l.received s []);
}
