-- A part that stays crashed keeps its facts with fewer events.
use Rattle.std.proofs.Common.{rules, refl}
use Rattle.rcv_role.proofs.Parts.{cut_is, cut_holds, none_chosen}
use Rattle.rcv_role.proofs.part.Part.cut_to.Goals as goal

pub invariant_of-self : goal.invariant_of-self
invariant_of-self c = (
  cut_is _ c.args.self.now c.self.inside.tail _ c.self.view_is c.self.invariant.0 c.args.keep c.args.clock c.min-held.result _ c.min-held.ensures c.requires.crashed c.requires.base c.requires.made c.rewind.ensures c.truncate.ensures.items refl refl,
  search rules,
  search rules,
  none_chosen _ c.args.self.now c.self.inside.tail c.self.view_is c.self.invariant.0 _ c.self.inside.chosen c.requires.crashed c.self.invariant.3,
)

pub rewind-requires : goal.rewind-requires
rewind-requires c = cut_holds _ c.args.self.now c.self.inside.tail c.self.view_is c.self.invariant.0 c.args.keep c.min-held.result c.min-held.ensures c.requires.base
