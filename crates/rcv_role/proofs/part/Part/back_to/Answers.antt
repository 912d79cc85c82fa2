-- A part keeps its facts with fewer events.
use Rattle.std.proofs.Common.{rules, refl}
use Rattle.rcv_role.proofs.Parts.{back_is, back_holds}
use Rattle.rcv_role.proofs.part.Part.back_to.Goals as goal

pub invariant_of-self : goal.invariant_of-self
invariant_of-self c = (
  back_is _ c.args.self.now c.self.inside.tail _ c.self.view_is c.self.invariant.0 c.args.keep c.args.clock _ c.requires.base c.requires.held c.rewind.ensures c.truncate.ensures.items refl,
  search rules,
  search rules,
  tt,
)

pub rewind-requires : goal.rewind-requires
rewind-requires c = back_holds _ c.args.self.now c.self.inside.tail c.self.view_is c.self.invariant.0 c.args.keep c.requires.base c.requires.held
