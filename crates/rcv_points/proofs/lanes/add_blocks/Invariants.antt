use Rattle.std.proofs.Common.{◌≡◌, ◌++◌, map, drop}
use Rattle.rcv_model.specs.Places.{beside}
use Rattle.rcv_model.specs.Text.{bodies_of, bodies_from}
use Rattle.rcv_points.specs.Lanes.{lane_text}
use Rattle.rcv_points.proofs.lanes.add_blocks.Given as goal

abbrev pub invariant-loop-block : goal.invariant-loop-block
invariant-loop-block l = map lane_text l.lanes.items ++ beside l.stage (bodies_from (drop l.block-index l.block-items)) ≡ map lane_text l.fn.lanes.items ++ beside l.stage (bodies_of l.blocks)
