-- What each place offers is added in turn.
use Rattle.std.proofs.Common.{◌≡◌, ℕ, List, length, take, get_or, subst, refl, ap, ◌∙◌, arith}
use Rattle.std.specs.Prelude.{◌↔◌}
use Rattle.std.proofs.Math.Seq.{take-length}
use Rattle.rcv_tree.specs.Bits.{members}
use Rattle.rcv_points.specs.Found.{IsOfferedBy}
use Rattle.rcv_model.specs.Net.{IsIn}
use Rattle.rcv_points.specs.Follow.{net_in}
use Rattle.rcv_points.proofs.Adding.{in_at}
use Rattle.rcv_points.proofs.Gathering.{offered_none, offered_more}
use Rattle.rcv_points.proofs.reach.offered_by.Goals as goal

pub loop-place-init : goal.loop-place-init
loop-place-init c = offered_none (net_in c.args.points.now) c.none-offered.result.0 c.none-offered.ensures

pub offered_set-requires : goal.offered_set-requires
offered_set-requires c =
    let at = get_or c.as_slice-place-items.result.now c.loop-place.place-index 0 in
    c.requires at (subst (IsIn at) c.as_slice-place-items.ensures.all (in_at c.as_slice-place-items.result.now c.loop-place.place-index c.loop-place-test.true))

pub loop-place-preserved : goal.loop-place-preserved
loop-place-preserved c =
    let at = get_or c.as_slice-place-items.result.now c.loop-place.place-index 0 in
    offered_more (net_in c.args.points.now) c.as_slice-place-items.result.now c.loop-place.place-index at c.loop-place.offered.0 c.offered_set.result.0 c.union-offered.result.0 c.loop-place-test.true refl c.offered_set.ensures c.union-offered.ensures.all c.loop-place.invariant

pub returns : goal.returns
returns c =
    let items = c.as_slice-place-items.result.now in
    let at_end : c.loop-place.place-index ≡ length items = omega (arith, c.loop-place-test.false, c.loop-place.auto.place-index-end) in
    let all : take c.loop-place.place-index items ≡ c.args.places.now = ap (λ n. take n items) at_end ∙ take-length items ∙ c.as_slice-place-items.ensures.all in
    subst (λ (l : List ℕ). (z : ℕ) → IsIn z (members c.loop-place.offered.0) ↔ IsOfferedBy (net_in c.args.points.now) l z) all c.loop-place.invariant
