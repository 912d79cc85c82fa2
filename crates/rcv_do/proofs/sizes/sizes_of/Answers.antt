use Rattle.std.proofs.Common.{◌≡◌, ◌<◌, ℕ, length, get_or, take, List, Option, refl, sym, subst, ◌∙◌, Some, arith}
use Rattle.std.proofs.Math.ListN.{length-set}
use Rattle.std.specs.Prelude.{slice_get}
use Rattle.std.proofs.lemmas.Option.{slice_get-get_or}
use Rattle.rcv_module.specs.Parts.{Part, part_of, calls}
use Rattle.rcv_do.specs.declared.sizes.Size.{Size}
use Rattle.rcv_do.specs.Counting.{IsSizeOf, AreSizesOf, AreKnown}
use Rattle.rcv_do.specs.Code.{protocols_in, parts_in}
use Rattle.rcv_do.proofs.Known.{sizes_more, all_more, behind_here, are_known}
use Rattle.rcv_do.proofs.Faulting.{parts_long}
use Rattle.rcv_do.proofs.sizes.sizes_of.Goals as goal

pub loop-place-preserved : goal.loop-place-preserved
loop-place-preserved c =
    let p : ℕ = get_or c.args.order.now c.loop-place.place-index 0 in
    let inside : p < length (protocols_in c.args.parts.now) = c.requires.inside c.loop-place.place-index 0 c.loop-place-test.true in
    let long : length c.loop-place.known.items ≡ length (protocols_in c.args.parts.now) = c.loop-place.invariant.long in
    let b = behind_here (parts_in c.args.parts.now) c.args.order.now c.loop-place.place-index p c.loop-place-test.true refl c.loop-place.invariant.behind in
    let parts_are = parts_long (protocols_in c.args.parts.now) in
    let q : Part = get_or (parts_in c.args.parts.now) p (part_of c.args.parts.now.main.now) in
    let at : slice_get (parts_in c.args.parts.now) p ≡ Some q = slice_get-get_or (parts_in c.args.parts.now) p (part_of c.args.parts.now.main.now) (omega (arith, inside, parts_are)) in
    let value : c.as_slice.result.now ≡ c.loop-place.known.items = c.as_slice.ensures.value in
    let size : IsSizeOf (parts_in c.args.parts.now) p c.in_ok-size.size = c.in_ok-size.ensures
    (subst (AreSizesOf (parts_in c.args.parts.now)) (sym value) c.loop-place.invariant.sizes) q at
    (subst (λ (k : List (Option Size)). AreKnown (parts_in c.args.parts.now) k (calls 0 q.body)) (sym value)
    (are_known (parts_in c.args.parts.now) c.loop-place.known.items (take c.loop-place.place-index c.args.order.now) p q c.requires.callable at b.0 c.loop-place.invariant.all)) in
    record {
      long = length-set c.loop-place.known.items p (Some c.in_ok-size.size) ∙ long;
      sizes = sizes_more (parts_in c.args.parts.now) c.loop-place.known.items _ p c.in_ok-size.size refl (omega (arith, inside, long)) size c.loop-place.invariant.sizes;
      all = all_more c.loop-place.known.items _ c.args.order.now c.loop-place.place-index p c.in_ok-size.size c.loop-place-test.true refl refl (omega (arith, inside, long)) c.loop-place.invariant.all;
      behind = b.1;
    }
