-- The list of the role has those above.
use Rattle.std.proofs.Common.{◌∙◌, ap, arith}
use Rattle.rcv_saves.specs.Counts.{above}
use Rattle.rcv_saves.specs.Saves.{told_of, with_told}
use Rattle.rcv_saves.proofs.Roles.{own_ascends, still_saves, seen_now}
use Rattle.rcv_saves.proofs.saves.Saves.forget.Goals as goal

pub drop_up_to-requires : goal.drop_up_to-requires
drop_up_to-requires c =
    let own = c.role.view_is in
    let low = c.requires in
    own_ascends c.self.inside.steps.items c.self.inside.told.items c.args.self.now c.self.view_is c.self.invariant c.role.inside.0 (omega (arith, own, low)) c.index_mut.result.now c.index_mut.ensures.value

pub invariant_of-self : goal.invariant_of-self
invariant_of-self c =
    let own = c.role.view_is in
    let low = c.requires in
    still_saves c.self.inside.steps.items c.self.inside.told.items c.args.self.now c.self.view_is c.self.invariant c.role.inside.0 (omega (arith, own, low)) c.index_mut.result.now c.index_mut.ensures.value c.drop_up_to.new.counts c.drop_up_to.ensures.ascending

pub returns : goal.returns
returns c =
    let own = c.role.view_is in
    let low = c.requires in
    seen_now c.self.inside.steps.items c.self.inside.told.items c.args.self.now c.self.view_is c.self.invariant c.role.inside.0 (omega (arith, own, low)) c.index_mut.result.now c.index_mut.ensures.value c.drop_up_to.new.counts (above c.args.base) c.drop_up_to.ensures.items
    ∙ ap (λ r. with_told c.args.self.now r (above c.args.base (told_of c.args.self.now r))) c.role.view_is
