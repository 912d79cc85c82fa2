-- What is left of a list at a place of it.
use Rattle.std.proofs.Common.{◌≡◌, ℕ, zero, suc, ◌+◌, ◌<◌, ◌≤◌, Option, None, List, [], ◌∷◌, length, drop, get_or, refl, sym, ap, ◌∙◌, arith}
use Rattle.std.proofs.lemmas.List.{drop_more, get_or_past}
use Rattle.rcv_do.specs.Code.{known_at}

-- This element, and what stands behind it.
pub step_on : {A : Type 0} (xs : List A) (i : ℕ) (x : A) → i < length xs → x ≡ get_or xs i x → drop i xs ≡ x ∷ drop (i + 1) xs
step_on xs i x lt e = drop_more xs i x lt ∙ ap (λ y. y ∷ drop (i + 1) xs) (sym e)

-- nothing at the end
pub no_more : {A : Type 0} (xs : List A) (i : ℕ) → length xs ≤ i → drop i xs ≡ []
no_more [] zero le = refl
no_more [] (suc i) le = refl
no_more (x ∷ xs) zero le = absurd (omega arith)
no_more (x ∷ xs) (suc i) le = no_more xs i (omega (arith, le))

-- Nothing is known behind the last place.
pub known_past : {A : Type 0} (xs : List (Option A)) (i : ℕ) → length xs ≤ i → None ≡ known_at xs i
known_past xs i le = sym (get_or_past xs i None le)
