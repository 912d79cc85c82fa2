use Rattle.std.proofs.Common.{◌≡◌, ◌≤◌, length, take}
use Rattle.rcv_model.specs.Run.{put}
use Rattle.rcv_points.specs.Follow.{net_in}
use Rattle.rcv_depend.proofs.lists.put_by.Given as goal

abbrev pub invariant-loop-number : goal.invariant-loop-number
invariant-loop-number l = (l.count ≡ length (put (net_in l.points) l.from l.to (take l.number l.log))) × (l.count ≤ l.number)
