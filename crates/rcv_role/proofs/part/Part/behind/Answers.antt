-- The state behind an event follows from the last one.
use Rattle.rcv_role.proofs.Parts.{seen_state, seen_change}
use Rattle.rcv_role.proofs.part.Part.behind.Goals as goal

pub returns-clause-state : goal.returns-clause-state
returns-clause-state c = seen_state _ c.args.self.now c.self.inside.tail c.self.view_is c.self.invariant.0 c.args.event.now c.top.result.now _ c.requires.running c.requires.own c.top.ensures c.place_behind.ensures c.receive-change.ensures.vars

pub returns-clause-change : goal.returns-clause-change
returns-clause-change c = seen_change _ c.args.self.now c.self.inside.tail c.self.view_is c.self.invariant.0 c.top.result.now c.receive-change.result _ c.requires.running c.top.ensures c.receive-change.ensures.change
