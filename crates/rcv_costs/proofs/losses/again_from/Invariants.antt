use Rattle.std.proofs.Common.{◌≡◌, ◌≤◌, ◌*◌, ◌^◌, List}
use Rattle.rcv_tree.specs.declared.event.Event.{Event}
use Rattle.rcv_session.specs.Session.{roles_of, net_for}
use Rattle.rcv_core.specs.Book.{state_of}
use Rattle.rcv_costs.specs.Losses.{sum_over, again_on, HaveReceivedFrom}
use Rattle.rcv_costs.proofs.losses.again_from.Given as goal

abbrev pub invariant-loop-to : goal.invariant-loop-to
invariant-loop-to l = record {
  sum : (old : List Event) → HaveReceivedFrom (net_for l.book.setup) (roles_of l.book.setup) old l.from l.received → l.again ≡ sum_over l.to (again_on (net_for l.book.setup) old (state_of l.book).kept l.from);
  few : l.again ≤ l.to * 2 ^ 32;
}
