-- The grammars of an input's parts. Scripts and plans are read for an accepted protocol.
use Rattle.rcv_accept.specs.Accepted.{AcceptedView}

pub data GrammarView : Type 0 where
  OfProtocol : GrammarView
  OfScripts : (accepted : AcceptedView) → GrammarView
  OfPlan : (accepted : AcceptedView) → GrammarView
