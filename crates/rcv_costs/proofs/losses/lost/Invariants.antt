use Rattle.std.proofs.Common.{◌≡◌, ◌≤◌, ◌*◌, ◌^◌}
use Rattle.rcv_session.specs.Session.{rules_of}
use Rattle.rcv_core.specs.Book.{state_of}
use Rattle.rcv_costs.specs.Losses.{sum_over, lost_by}
use Rattle.rcv_costs.proofs.losses.lost.Given as goal

abbrev pub invariant-loop-member : goal.invariant-loop-member
invariant-loop-member l = record {
  sum : l.lost ≡ sum_over l.member (lost_by (rules_of l.book.setup) (state_of l.book) l.fn.role);
  few : l.lost ≤ l.member * 2 ^ 32;
}
