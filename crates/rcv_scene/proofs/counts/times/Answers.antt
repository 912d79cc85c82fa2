-- One place more; there are at most as many as places.
use Rattle.std.proofs.Common.{◌≡◌, ◌-◌, ◌≤◌, ap, ◌∙◌, arith}
use Rattle.std.specs.List.{count_by, range_with_len}
use Rattle.rcv_scene.specs.Grid.{scene_of}
use Rattle.rcv_scene.specs.Folds.{does}
use Rattle.rcv_scene.proofs.Counting.{one_time_more, few_times, one_at_most}
use Rattle.rcv_scene.proofs.counts.times.Goals as goal

pub overflow_add-count : goal.overflow_add-count
overflow_add-count c =
    let few = few_times (does (scene_of c.args.layout.now) c.args.role c.args.act) c.args.first (c.loop-place.place - c.args.first) c.loop-place.count c.loop-place.invariant in
    let one = one_at_most c.does-did.result c.one_if-count.result c.one_if-count.ensures in
    omega (arith, few, one, c.loop-place-test.true)

pub loop-place-preserved : goal.loop-place-preserved
loop-place-preserved c =
    one_time_more (does (scene_of c.args.layout.now) c.args.role c.args.act) c.args.first c.loop-place.place c.loop-place.count c.one_if-count.result c.does-did.result
    c.loop-place.auto.place c.loop-place.invariant c.does-did.ensures c.one_if-count.ensures
