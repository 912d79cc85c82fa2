-- Which counts are looked at, worked out; and a crash session that has another crash line.
use Rattle.std.proofs.Common.{◌≡◌, [], ◌∷◌, refl}
use Rattle.rcv_model.specs.Plan.{EveryLine, CrashLine, HostLine}
use Rattle.rcv_plan.specs.OneCrash.{with_one_crash}
use Rattle.rcv_costs.specs.Sampling.{step_for, counts_of, counts_in}

few_counts : step_for 2000 ≡ 1
few_counts = refl

more_counts : step_for 2001 ≡ 2
more_counts = refl

every_second : counts_of 5 2 0 ≡ record { role = 0; count = 0 } ∷ record { role = 0; count = 2 } ∷ record { role = 0; count = 4 } ∷ []
every_second = refl

two_roles : counts_in 2 (λ r. r) 1 ≡ record { role = 0; count = 0 } ∷ record { role = 1; count = 0 } ∷ record { role = 1; count = 1 } ∷ []
two_roles = refl

other_crashes_go : with_one_crash 1 3 (EveryLine 0 2 ∷ CrashLine 0 7 ∷ HostLine (0 ∷ 1 ∷ []) ∷ []) ≡ EveryLine 0 2 ∷ HostLine (0 ∷ 1 ∷ []) ∷ CrashLine 1 3 ∷ []
other_crashes_go = refl

not_each : counts_of 5 2 0 ≡ counts_of 5 1 0 → ⊥
not_each e = absurd (cc)
