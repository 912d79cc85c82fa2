-- The greater of the last told and the last stepped one.
use Rattle.std.proofs.Common.{sym, ◌∙◌, ap, subst, arith}
use Rattle.std.specs.Prelude.{slice_index}
use Rattle.std.specs.List.{Contains}
use Rattle.rcv_saves.specs.Counts.{IsAscending, IsLastTold, IsLastStepped, IsStepped}
use Rattle.rcv_saves.specs.Saves.{told_of, IsLastSaved}
use Rattle.rcv_saves.proofs.Roles.{own_ascends, own_seen, step_seen}
use Rattle.rcv_saves.proofs.Lasts.{both_last}
use Rattle.rcv_saves.proofs.saves.Saves.last.Goals as goal

pub last_told-told-requires-clause-told : goal.last_told-told-requires-clause-told
last_told-told-requires-clause-told c =
    let own = c.role.view_is in
    let low = c.requires.role in
    subst IsAscending (sym c.as_slice.ensures.value) (own_ascends c.self.inside.steps.items c.self.inside.told.items c.args.self.now c.self.view_is c.self.invariant c.role.inside.0 (omega (arith, own, low)) c.index.result.now c.index.ensures)

pub returns : goal.returns
returns c =
    let own = c.role.view_is in
    let low = c.requires.role in
    let told = own_seen c.self.inside.steps.items c.self.inside.told.items c.args.self.now c.self.view_is c.self.invariant c.role.inside.0 (omega (arith, own, low)) c.index.result.now c.index.ensures in
    let here = c.as_slice.ensures.value ∙ told ∙ ap (told_of c.args.self.now) c.role.view_is in
    let step = step_seen c.self.inside.steps.items c.self.inside.told.items c.args.self.now c.self.view_is c.self.invariant c.role.inside.0 (omega (arith, own, low)) c.index-2.result.now c.index-2.ensures ∙ ap (slice_index c.args.self.now.steps) c.role.view_is in
    subst (IsLastSaved c.args.self.now c.args.role c.args.base c.args.count) (sym c.max.ensures)
    (both_last (Contains (told_of c.args.self.now c.args.role)) (IsStepped (slice_index c.args.self.now.steps c.args.role)) c.args.base c.args.count c.last_told-told.result c.last_stepped.result
    (subst (λ l. IsLastTold l c.args.base c.args.count c.last_told-told.result) here c.last_told-told.ensures)
    (subst (λ s. IsLastStepped s c.args.base c.args.count c.last_stepped.result) step c.last_stepped.ensures))
