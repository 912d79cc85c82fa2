use Rattle.std.proofs.Common.{ℕ, take}
use Rattle.std.specs.Prelude.{◌↔◌}
use Rattle.rcv_tree.specs.Bits.{members}
use Rattle.rcv_model.specs.Net.{IsIn}
use Rattle.rcv_points.specs.Follow.{net_in}
use Rattle.rcv_points.specs.Found.{IsOfferedBy}
use Rattle.rcv_points.proofs.reach.offered_by.Given as goal

abbrev pub invariant-loop-place : goal.invariant-loop-place
invariant-loop-place l = (z : ℕ) → IsIn z (members l.offered.0) ↔ IsOfferedBy (net_in l.points) (take l.place-index l.place-items) z
