-- A place more in a state, or a state more.
use Rattle.std.proofs.Common.{List, ◌≡◌, ◌<◌, length, [], ◌∷◌, ◌++◌, sym, ◌∙◌, ap, subst}
use Rattle.std.specs.Prelude.{position, slice_set, slice_index_or}
use Rattle.std.proofs.lemmas.Result.{on_ok_weaker}
use Rattle.rcv_project.specs.Act.{owned_view}
use Rattle.rcv_charts.specs.States.{StateView, same_act, grown, with_place}
use Rattle.rcv_charts.proofs.Counted.{position_is, position_none, placed_in, placed_behind}
use Rattle.rcv_charts.proofs.states.add_place.Goals as goal

pub returns-in-Some : goal.returns-in-Some
returns-in-Some c =
    let act = owned_view c.args.act in
    let items = c.args.states.now.items in
    let does = λ (s : StateView). same_act s.act act in
    let d = c.index_mut.result.now in
    let found = position_is does items c.in-Some.index (sym (c.doing.ensures.value ∙ ap (λ (xs : List StateView). position does xs) c.as_slice.ensures.value) ∙ c.in-Some.is) in
    on_ok_weaker c.push.result
    (λ pushed. ap (slice_set items c.in-Some.index) (pushed ∙ ap (λ s. grown s c.args.place) c.index_mut.ensures.value)
    ∙ subst (λ i. slice_set items i (grown (slice_index_or items i d) c.args.place) ≡ with_place act c.args.place items) (sym found.1) (placed_in act c.args.place d items (subst (λ i. i < length items) found.1 found.0)))
    c.push.ensures

pub returns-in_ok-push-in-None : goal.returns-in_ok-push-in-None
returns-in_ok-push-in-None c =
    let act = owned_view c.args.act in
    let items = c.args.states.now.items in
    let does = λ (s : StateView). same_act s.act act in
    c.in_ok-push-in-None.ensures.items ∙ ap (λ (s : StateView). items ++ s ∷ []) c.in_ok-new-in-None.ensures
    ∙ placed_behind act c.args.place items (position_none does items (sym (c.doing.ensures.value ∙ ap (λ (xs : List StateView). position does xs) c.as_slice.ensures.value) ∙ c.in-None.is))
