-- The list of the role has the count, or is as before.
use Rattle.std.proofs.Common.{◌∙◌, ap, arith}
use Rattle.std.proofs.lemmas.Result.{on_ok_weaker}
use Rattle.rcv_saves.specs.Counts.{with_count}
use Rattle.rcv_saves.specs.Saves.{told_of, with_told}
use Rattle.rcv_saves.proofs.Roles.{on_err_weaker, own_ascends, still_saves, seen_now, seen_same}
use Rattle.rcv_saves.proofs.saves.Saves.save.Goals as goal

pub add-requires : goal.add-requires
add-requires c =
    let own = c.role.view_is in
    let low = c.requires in
    own_ascends c.self.inside.steps.items c.self.inside.told.items c.args.self.now c.self.view_is c.self.invariant c.role.inside.0 (omega (arith, own, low)) c.index_mut.result.now c.index_mut.ensures.value

pub invariant_of-self : goal.invariant_of-self
invariant_of-self c =
    let own = c.role.view_is in
    let low = c.requires in
    still_saves c.self.inside.steps.items c.self.inside.told.items c.args.self.now c.self.view_is c.self.invariant c.role.inside.0 (omega (arith, own, low)) c.index_mut.result.now c.index_mut.ensures.value c.add.new.counts c.add.ensures.ascending

pub returns-clause-ok : goal.returns-clause-ok
returns-clause-ok c =
    let own = c.role.view_is in
    let low = c.requires in
    on_ok_weaker c.add.result (λ items. seen_now c.self.inside.steps.items c.self.inside.told.items c.args.self.now c.self.view_is c.self.invariant c.role.inside.0 (omega (arith, own, low)) c.index_mut.result.now c.index_mut.ensures.value c.add.new.counts (with_count c.args.count) items
    ∙ ap (λ r. with_told c.args.self.now r (with_count c.args.count (told_of c.args.self.now r))) c.role.view_is) c.add.ensures.ok

pub returns-clause-err : goal.returns-clause-err
returns-clause-err c =
    let own = c.role.view_is in
    let low = c.requires in
    on_err_weaker c.add.result (λ items. seen_same c.self.inside.steps.items c.self.inside.told.items c.args.self.now c.self.view_is c.self.invariant c.role.inside.0 (omega (arith, own, low)) c.index_mut.result.now c.index_mut.ensures.value c.add.new.counts items) c.add.ensures.err
