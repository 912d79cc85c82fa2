use Rattle.std.proofs.Common.{◌≡◌, map, take}
use Rattle.rcv_points.specs.Follow.{net_in}
use Rattle.rcv_charts.specs.StateTitles.{step_text}
use Rattle.rcv_tree.specs.Lists.{lists_in}
use Rattle.rcv_charts.proofs.boxes.steps_of.Given as goal

abbrev pub invariant-loop-point : goal.invariant-loop-point
invariant-loop-point l = lists_in l.steps.items ≡ map (step_text l.source.roles.now (net_in l.source.points.now) l.state.act) (take l.point-index l.point-items)
