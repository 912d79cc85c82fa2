use Rattle.rcv_session.specs.Session.{net_for}
use Rattle.rcv_core.specs.Book.{state_of}
use Rattle.rcv_costs.specs.Losses.{HaveReceivedFrom}
use Rattle.rcv_costs.proofs.losses.received_from.Given as goal

abbrev pub invariant-loop-to : goal.invariant-loop-to
invariant-loop-to l = HaveReceivedFrom (net_for l.book.setup) l.to (state_of l.book).kept l.from l.received
