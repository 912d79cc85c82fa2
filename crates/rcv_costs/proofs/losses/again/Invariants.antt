use Rattle.std.proofs.Common.{◌≡◌, ◌≤◌, ◌*◌, ◌^◌, ℕ, List}
use Rattle.rcv_tree.specs.declared.event.Event.{Event}
use Rattle.rcv_session.specs.Session.{roles_of, net_for}
use Rattle.rcv_core.specs.Book.{state_of}
use Rattle.rcv_costs.specs.Losses.{sum_over, again_on, HaveReceived}
use Rattle.rcv_costs.proofs.losses.again.Given as goal

abbrev pub invariant-loop-from : goal.invariant-loop-from
invariant-loop-from l = record {
  sum : (old : List Event) → HaveReceived (net_for l.book.setup) (roles_of l.book.setup) old l.received → l.again ≡ sum_over l.from (λ (s : ℕ). sum_over (roles_of l.book.setup) (again_on (net_for l.book.setup) old (state_of l.book).kept s));
  few : l.again ≤ l.from * 2 ^ 36;
}
