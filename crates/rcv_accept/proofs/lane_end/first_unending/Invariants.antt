use Rattle.std.proofs.Common.{ℕ}
use Rattle.rcv_model.specs.Text.{Body}
use Rattle.rcv_accept.specs.Faults.{AreOf, IsFirst}
use Rattle.rcv_accept.proofs.Faults.{BeforeEnd}
use Rattle.rcv_accept.proofs.lane_end.first_unending.Given as goal

abbrev pub invariant-loop-place : goal.invariant-loop-place
invariant-loop-place l = (body : Body) (roles : ℕ) → AreOf body roles l.points → IsFirst (BeforeEnd body roles l.place) l.first
