-- The places so far.
use Rattle.std.proofs.Common.{◌≡◌, ◌-◌}
use Rattle.std.specs.List.{count_by, range_with_len}
use Rattle.rcv_scene.specs.Grid.{scene_of}
use Rattle.rcv_scene.specs.Folds.{does}
use Rattle.rcv_scene.proofs.counts.times.Given as goal

abbrev pub invariant-loop-place : goal.invariant-loop-place
invariant-loop-place l = l.count ≡ count_by (does (scene_of l.layout) l.role l.act) (range_with_len l.first (l.place - l.first))
