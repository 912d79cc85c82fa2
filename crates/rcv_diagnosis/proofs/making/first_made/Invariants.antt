use Rattle.std.proofs.Common.{◌<◌, ℕ}
use Rattle.rcv_diagnosis.specs.Making.{CanMake}
use Rattle.rcv_diagnosis.proofs.making.first_made.Given as goal

abbrev pub invariant-loop-role : goal.invariant-loop-role
invariant-loop-role l = (r : ℕ) → r < l.role → CanMake l.book r → ⊥
