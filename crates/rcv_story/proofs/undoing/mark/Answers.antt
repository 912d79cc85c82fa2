-- One place more is marked.
use Rattle.std.proofs.Common.{arith}
use Rattle.std.specs.Prelude.{slice_index_or}
use Rattle.rcv_story.proofs.Marking.{in_index, mark_next}
use Rattle.rcv_story.proofs.undoing.mark.Goals as goal

pub index_mut-requires : goal.index_mut-requires
index_mut-requires c =
    let low = c.requires (slice_index_or c.args.places.now c.loop-place.place-index 0) (in_index c.args.places.now c.loop-place.place-index 0 c.loop-place-test.true) in
    let size = c.loop-place.invariant.size in
    let len = c.loop-place.undone.ok.0 in
    omega (arith, low, size, len)

pub loop-place-preserved : goal.loop-place-preserved
loop-place-preserved c =
    let low = c.requires (slice_index_or c.args.places.now c.loop-place.place-index 0) (in_index c.args.places.now c.loop-place.place-index 0 c.loop-place-test.true) in
    let size = c.loop-place.invariant.size in
    mark_next c.args.places.now c.loop-place.place-index c.args.recover c.args.undone.now.items c.loop-place.undone.items c.loop-place-test.true (omega (arith, low, size)) c.loop-place.invariant
