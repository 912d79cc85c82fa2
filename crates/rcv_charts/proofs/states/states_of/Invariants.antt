use Rattle.rcv_accept.specs.Accepted.{net_for}
use Rattle.rcv_charts.specs.States.{AreMadeTo}
use Rattle.rcv_charts.proofs.states.states_of.Given as goal

abbrev pub invariant-loop-before : goal.invariant-loop-before
invariant-loop-before l = AreMadeTo (net_for l.accepted) l.local.role l.before l.states.items
