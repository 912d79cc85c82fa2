-- A part keeps its facts from a later base on.
use Rattle.std.proofs.Common.{rules}
use Rattle.rcv_role.proofs.Parts.{forgot_is, line_holds}
use Rattle.rcv_role.proofs.part.Part.forget.Goals as goal

pub forget-requires : goal.forget-requires
forget-requires c = line_holds _ c.args.self.now c.self.inside.tail c.self.view_is c.self.invariant.0 c.args.line c.requires.above c.requires.saved

pub invariant_of-self : goal.invariant_of-self
invariant_of-self c = (
  forgot_is _ c.args.self.now c.self.inside.tail c.self.view_is c.self.invariant.0 _ c.args.line c.requires.step c.requires.above c.requires.saved c.forget.ensures,
  search rules,
  search rules,
  c.self.invariant.3,
)
