-- Lists that a loop fills from the front.
use Rattle.std.proofs.Common.{◌≡◌, ℕ, suc, ◌+◌, ◌<◌, Some, List, [], ◌∷◌, ◌++◌, length, map, take, sym, ◌∙◌, ap, subst, ⊎_elim, arith}
use Rattle.std.specs.Prelude.{slice_get, slice_index_or, slice_set}
use Rattle.std.proofs.Math.Seq.{take-suc, take-length}
use Rattle.std.proofs.lemmas.Bool.{cases_eq}
use Rattle.std.proofs.lemmas.List.{get_or-set_same, get_or-set_other, map-append}
use Rattle.std.proofs.lemmas.Option.{get_or_from_slice_get, slice_get_within}

-- one row more has its property
pub row_done : (P : ℕ → List ℕ → Type 0) (rows : List (List ℕ)) (i : ℕ) (row : List ℕ) → i < length rows → ((s : ℕ) → s < i → P s (slice_index_or rows s [])) → P i row → (s : ℕ) → s < i + 1 → P s (slice_index_or (slice_set rows i row) s [])
row_done P rows i row lt done here s low = ⊎_elim
    (λ e. subst (λ q. P q (slice_index_or (slice_set rows i row) q [])) e (subst (P i) (sym (get_or-set_same rows i row [] lt)) here))
    (λ other. subst (P s) (sym (get_or-set_other rows i s row [] (λ e. other (sym e)))) (done s (omega (arith, low, other))))
    (cases_eq i s)

-- one element more of a list that is mapped
pub mapped_more : {A B : Type 0} (f : A → B) (xs : List A) (i : ℕ) (x : A) (ys : List B) → slice_get xs i ≡ Some x → ys ≡ map f (take i xs) → ys ++ f x ∷ [] ≡ map f (take (i + 1) xs)
mapped_more f xs i x ys at so =
    let one : suc i ≡ i + 1 = omega arith in
    let lt = slice_get_within xs i x at in
    ap (λ l. l ++ f x ∷ []) so
    ∙ sym (map-append f (take i xs) (x ∷ []))
    ∙ ap (λ z. map f (take i xs ++ z ∷ [])) (sym (get_or_from_slice_get xs i x x at))
    ∙ ap (map f) (sym (take-suc xs i x lt))
    ∙ ap (λ k. map f (take k xs)) one

pub mapped_all : {A B : Type 0} (f : A → B) (xs : List A) (i : ℕ) (ys : List B) → i ≡ length xs → ys ≡ map f (take i xs) → ys ≡ map f xs
mapped_all f xs i ys all so = so ∙ ap (λ k. map f (take k xs)) all ∙ ap (map f) (take-length xs)
