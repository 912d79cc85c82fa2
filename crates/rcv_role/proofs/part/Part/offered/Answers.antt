-- The last state held is the present one where the role runs.
use Rattle.rcv_role.proofs.Parts.{seen_place, seen_offers}
use Rattle.rcv_role.proofs.part.Part.offered.Goals as goal

pub next-requires-clause-place : goal.next-requires-clause-place
next-requires-clause-place c = seen_place _ c.args.self.now c.self.inside.tail c.self.view_is c.self.invariant.0 c.top.result.now c.requires c.top.ensures

pub returns : goal.returns
returns c = seen_offers _ c.args.self.now c.self.inside.tail c.self.view_is c.self.invariant.0 c.top.result.now c.next.result.now c.requires c.top.ensures c.next.ensures
