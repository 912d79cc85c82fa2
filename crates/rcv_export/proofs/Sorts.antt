-- The sorts of a point stand at its place among those of all messages.
use Rattle.std.proofs.Common.{◌≡◌, ℕ, suc, ◌+◌, ◌-◌, ◌<◌, ◌≤◌, Bool, true, false, ◌==◌, cond, List, [], ◌∷◌, get_or, length, map, refl, ◌∙◌, ap, arith}
use Rattle.std.proofs.lemmas.Bool.Decides.{nat_tests}
use Rattle.rcv_model.specs.Text.{Body}
use Rattle.rcv_model.specs.Places.{SingleMessage, single_at, singles}
use Rattle.rcv_model.specs.Form.{IsNumberedFrom}
use Rattle.rcv_export.specs.Messages.{sorts_of, sorts_in, sorts_at}

sorts_told : (n p : ℕ) (d : List (List ℕ)) (es : List (ℕ × SingleMessage)) → IsNumberedFrom n es → n ≤ p → p < n + length es → get_or (map sorts_of es) (p - n) d ≡ (single_at p es).sorts
sorts_told n p d [] num le lt = absurd (omega (arith, le, lt))
sorts_told n p d (e ∷ es) num le lt = go (e.0 == p) refl (sorts_told (n + 1) p d es num.1)
  where
    go : (b : Bool) → (e.0 == p) ≡ b → (n + 1 ≤ p → p < n + 1 + length es → get_or (map sorts_of es) (p - (n + 1)) d ≡ (single_at p es).sorts) → get_or (sorts_of e ∷ map sorts_of es) (p - n) d ≡ (cond b e.1 (single_at p es)).sorts
    go true t ih =
        let a : p - n ≡ 0 = let f = num.0 in let g : e.0 ≡ p = grind (arith, nat_tests) in omega arith in
        ap (λ i. get_or (sorts_of e ∷ map sorts_of es) i d) a
    go false t ih =
        let g : e.0 ≡ p → ⊥ = λ h. grind (arith, nat_tests) in
        let low : n + 1 ≤ p = let f = num.0 in omega arith in
        let high : p < n + 1 + length es = omega (arith, lt) in
        let a : p - n ≡ suc (p - (n + 1)) = omega arith in
        ap (λ i. get_or (sorts_of e ∷ map sorts_of es) i d) a ∙ ih low high

pub sorts_there : (body : Body) (p : ℕ) (d : List (List ℕ)) → IsNumberedFrom 1 (singles body) → 1 ≤ p → p ≤ length (singles body) → get_or (sorts_in body) (p - 1) d ≡ sorts_at body p
sorts_there body p d num low high = sorts_told 1 p d (singles body) num low (omega (arith, high))
