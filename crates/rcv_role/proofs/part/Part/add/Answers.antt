-- A part keeps its facts with an event more.
use Rattle.std.proofs.Common.{rules, refl}
use Rattle.rcv_role.proofs.Parts.{more_is, seen_final}
use Rattle.rcv_role.proofs.part.Part.add.Goals as goal

pub invariant_of-self : goal.invariant_of-self
invariant_of-self c = (
  more_is _ c.args.self.now c.self.inside.tail _ c.self.view_is c.self.invariant.0 c.args.event.now c.behind-behind.result.state _ c.requires.running c.requires.own c.requires.below c.behind-behind.ensures.state c.hold.ensures c.push_reserved.ensures.items refl refl,
  search rules,
  search rules,
  tt,
)

pub hold-requires-clause-change : goal.hold-requires-clause-change
hold-requires-clause-change c = seen_final _ c.args.self.now c.self.inside.tail c.self.view_is c.self.invariant.0 c.behind-behind.result.change _ c.requires.running c.behind-behind.ensures.change
