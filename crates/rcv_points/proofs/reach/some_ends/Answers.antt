-- The places before this one offer something.
use Rattle.std.proofs.Common.{get_or, subst, sym, ◌∙◌, refl}
use Rattle.rcv_model.specs.Net.{IsIn}
use Rattle.rcv_points.specs.Follow.{net_in}
use Rattle.rcv_points.proofs.Adding.{in_at}
use Rattle.rcv_points.proofs.Gathering.{no_end_more, of_none, of_some}
use Rattle.rcv_points.proofs.reach.some_ends.Goals as goal

pub offered-requires : goal.offered-requires
offered-requires c =
    let at = get_or c.as_slice-place-items.result.now c.loop-place.place-index 0 in
    c.requires at (subst (IsIn at) c.as_slice-place-items.ensures.all (in_at c.as_slice-place-items.result.now c.loop-place.place-index c.loop-place-test.true))

pub returns-then-is_empty : goal.returns-then-is_empty
returns-then-is_empty c =
    let at = get_or c.as_slice-place-items.result.now c.loop-place.place-index 0 in
    (λ t. (at, subst (IsIn at) c.as_slice-place-items.ensures.all (in_at c.as_slice-place-items.result.now c.loop-place.place-index c.loop-place-test.true), sym c.offered.ensures ∙ of_none c.offered.result.now c.if-is_empty.ensures), λ m. refl)

pub loop-place-preserved : goal.loop-place-preserved
loop-place-preserved c =
    let at = get_or c.as_slice-place-items.result.now c.loop-place.place-index 0 in
    no_end_more (net_in c.args.points.now) c.as_slice-place-items.result.now c.loop-place.place-index at c.loop-place-test.true refl c.loop-place.invariant (λ e. of_some c.offered.result.now c.if-is_empty.ensures (c.offered.ensures ∙ e))
