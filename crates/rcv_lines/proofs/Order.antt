-- Lines of roles in order.
use Rattle.std.proofs.Common.{◌≡◌, ◌∙◌, ℕ, zero, suc, ◌+◌, List, [], ◌∷◌, ◌++◌, length, slice_get, Some, refl, sym, ap, subst, arith}
use Rattle.std.proofs.lemmas.Option.{none-some, same_Some}
use Rattle.rcv_journal.specs.declared.line.RoleLine.{RoleLine}

-- from this role on
abbrev pub Ordered : ℕ → List RoleLine → Type 0
Ordered n [] = Unit {0}
Ordered n (line ∷ lines) = (line.role ≡ n) × Ordered (suc n) lines

abbrev pub AtPlaces : ℕ → List RoleLine → Type 0
AtPlaces n lines = (q : ℕ) (line : RoleLine) → slice_get lines q ≡ Some line → line.role ≡ n + q

pub ordered : (n : ℕ) (lines : List RoleLine) → AtPlaces n lines → Ordered n lines
ordered n [] at = tt
ordered n (line ∷ lines) at =
    (at 0 line refl ∙ omega arith, ordered (suc n) lines (λ q x is. at (suc q) x is ∙ omega arith))

pub at_places : (n : ℕ) (lines : List RoleLine) → Ordered n lines → AtPlaces n lines
at_places n [] are q x is = absurd (none-some x is)
at_places n (line ∷ lines) are zero x is = ap (λ (y : RoleLine). y.role) (sym (same_Some line x is)) ∙ are.0 ∙ omega arith
at_places n (line ∷ lines) are (suc q) x is = at_places (suc n) lines are.1 q x is ∙ omega arith

pub ordered_more : (n : ℕ) (lines more : List RoleLine) → Ordered n lines → Ordered (length lines + n) more → Ordered n (lines ++ more)
ordered_more n [] more are after =
    let here : 0 + n ≡ n = omega arith in
    subst (λ k. Ordered k more) here after
ordered_more n (line ∷ lines) more are after =
    let next : suc (length lines) + n ≡ length lines + suc n = omega arith in
    (are.0, ordered_more (suc n) lines more are.1 (subst (λ k. Ordered k more) next after))
