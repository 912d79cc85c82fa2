-- A part keeps its facts with a choice of its own.
use Rattle.rcv_role.proofs.Parts.{remember}
use Rattle.rcv_role.proofs.part.Part.remember.Goals as goal

pub invariant_of-self : goal.invariant_of-self
invariant_of-self c = (
  c.self.invariant.0,
  c.self.invariant.1,
  c.self.invariant.2,
  remember _ c.args.self.now c.self.inside.tail c.self.view_is c.self.invariant.0 c.args.event.now c.requires,
)
