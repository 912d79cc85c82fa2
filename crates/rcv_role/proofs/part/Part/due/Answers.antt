-- The plan is asked for the role's own numbers.
use Rattle.rcv_role.proofs.Parts.{due_is}
use Rattle.rcv_role.proofs.part.Part.due.Goals as goal

pub returns : goal.returns
returns c = due_is _ c.args.self.now c.self.inside.tail c.self.view_is c.self.invariant.0 c.plan.result.now c.due.result c.requires c.plan.ensures.value c.due.ensures
