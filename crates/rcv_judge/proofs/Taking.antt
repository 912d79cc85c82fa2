-- The first so many of a list, and the next one.
use Rattle.std.proofs.Common.{◌≡◌, ℕ, zero, suc, Some, List, [], ◌∷◌, ◌++◌, take, ap}
use Rattle.std.specs.Prelude.{slice_get}
use Rattle.std.proofs.lemmas.Option.{none-some, same_Some}

pub next_taken : {A : Type 0} (xs : List A) (k : ℕ) (x : A) → slice_get xs k ≡ Some x → take (suc k) xs ≡ take k xs ++ x ∷ []
next_taken [] k x at = absurd (none-some x at)
next_taken (y ∷ xs) zero x at = ap (λ z. z ∷ []) (same_Some y x at)
next_taken (y ∷ xs) (suc k) x at = ap (λ ys. y ∷ ys) (next_taken xs k x at)
