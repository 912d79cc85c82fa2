-- Small failures, computed.
use Rattle.std.proofs.Common.{◌≡◌, ℕ, zero, suc, Option, Some, None, List, [], ◌∷◌, refl}
use Rattle.rcv_model.specs.Net.{Net}
use Rattle.rcv_told.specs.Told.{Terms}
use Rattle.rcv_dialogue.specs.declared.few.Failed.{Failed}
use Rattle.rcv_guided.specs.Failures.{told_count, first_below, in_turn}

-- Roles 0 and 1 are of one host.
abbrev hosts : ℕ → List ℕ
hosts zero = 1 ∷ []
hosts (suc zero) = 0 ∷ []
hosts (suc (suc r)) = []

abbrev terms_with : Net → Terms
terms_with net = record { net = net; roles = 3; host = hosts }

abbrev failed_at : ℕ → Option ℕ → Failed
failed_at r count = record { role = r; count = count }

-- The second fails with the first, the third by itself; the other way round as well.
with_its_host : (net : Net) → in_turn (terms_with net) [] (failed_at 0 None ∷ failed_at 1 (Some 4) ∷ failed_at 2 None ∷ []) ≡ 0 ∷ 2 ∷ []
with_its_host net = refl

the_other_way : (net : Net) → in_turn (terms_with net) [] (failed_at 2 None ∷ failed_at 1 None ∷ failed_at 0 None ∷ []) ≡ 2 ∷ 1 ∷ []
the_other_way net = refl

-- A count that is told of a role which fails with another one counts.
its_count : told_count (failed_at 0 None ∷ failed_at 1 (Some 4) ∷ []) 1 ≡ Some 4
its_count = refl

-- The first one below its line, with the line; where all are at their lines, none.
below_it : first_below (λ r. 3) (failed_at 0 (Some 5) ∷ failed_at 1 None ∷ failed_at 2 (Some 2) ∷ []) ≡ Some (record { role = 2; count = 3 })
below_it = refl

none_below : first_below (λ r. 3) (failed_at 0 (Some 3) ∷ failed_at 1 None ∷ []) ≡ None
none_below = refl
