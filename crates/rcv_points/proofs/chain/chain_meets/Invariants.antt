use Rattle.std.proofs.Common.{◌-◌, ◌≤◌, length}
use Rattle.std.specs.Prelude.{◌↔◌, IsTrue}
use Rattle.rcv_points.specs.Follow.{net_in}
use Rattle.rcv_points.specs.Met.{HasOwn}
use Rattle.rcv_points.proofs.Chains.{ChainSoFar}
use Rattle.rcv_points.proofs.chain.chain_meets.Given as goal

abbrev pub invariant-loop-role : goal.invariant-loop-role
invariant-loop-role l = ChainSoFar (net_in l.points) l.role l.place l.wanted l.met l.at × (1 ≤ l.at → (IsTrue l.owned ↔ HasOwn (net_in l.points) l.role ((net_in l.points).lane l.at)))

abbrev pub decreases-loop-role : goal.decreases-loop-role
decreases-loop-role l = 257 - length l.met
