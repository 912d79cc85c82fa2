-- A part takes nothing from strangers.
use Rattle.rcv_role.proofs.Parts.{seen, strangers_none, holds_states}
use Rattle.rcv_role.proofs.part.Part.known.Goals as goal

pub returns-clause-strangers : goal.returns-clause-strangers
returns-clause-strangers c = strangers_none c.args.self.now c.self.inside.tail (seen _ c.args.self.now c.self.inside.tail c.self.view_is c.self.invariant.0)

pub returns-clause-states : goal.returns-clause-states
returns-clause-states c = holds_states c.args.self.now c.self.inside.tail (seen _ c.args.self.now c.self.inside.tail c.self.view_is c.self.invariant.0)
