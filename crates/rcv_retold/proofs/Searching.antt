-- What a search among stamps finds.
use Rattle.std.proofs.Common.{◌≡◌, ℕ, ◌<◌, ◌≤◌, true, false, Some, List, length, sym, ◌∙◌, ap, subst, ⊎_elim, arith, ltb, ltb-true, ltb-false}
use Rattle.std.specs.Prelude.{◌↔◌, IsTrue, slice_get, slice_index_or}
use Rattle.std.specs.List.Sorted.{IsNonDecreasing, IsPartitionPoint}
use Rattle.std.proofs.lemmas.Bool.{cases_lt}
use Rattle.std.proofs.lemmas.Option.{slice_get_within, slice_get-get_or, get_or_from_slice_get}
use Rattle.rcv_retold.specs.Stamps.{IsStamp}

-- the stamp stands at the place that is found, if anywhere
module _ (xs : List ℕ) (stamp n : ℕ) (rise : IsNonDecreasing xs) (point : IsPartitionPoint (λ (x : ℕ). ltb x stamp ≡ true) (λ (x : ℕ). ltb x stamp ≡ false) xs n) where
  stands : (i : ℕ) → slice_get xs i ≡ Some stamp → slice_get xs n ≡ Some stamp
  stands i at = ⊎_elim
      (λ lt. absurd (let a = ltb-true _ stamp (point.0 i stamp (omega arith) lt) in omega (arith, a, is)))
      (λ le. ⊎_elim later (λ ge. subst (λ k. slice_get xs k ≡ Some stamp) (omega (arith, le, ge)) at) (cases_lt n i))
      (cases_lt i n)
    where
      is : slice_index_or xs i stamp ≡ stamp
      is = get_or_from_slice_get xs i stamp stamp at

      inside : i < length xs
      inside = slice_get_within xs i stamp at

      later : n < i → slice_get xs n ≡ Some stamp
      later lt =
          let here = slice_get-get_or xs n stamp (omega (arith, lt, inside)) in
          let a = ltb-false _ stamp (point.1 n stamp (omega arith) (omega (arith, lt, inside))) in
          let b = rise n i stamp (omega (arith, lt)) inside in
          let same : slice_index_or xs n stamp ≡ stamp = omega (arith, a, b, is) in
          here ∙ ap Some same

  pub past_all : length xs ≤ n → IsTrue false ↔ IsStamp xs stamp
  past_all past = ((λ t. absurd cc), λ s. absurd (let w = slice_get_within xs n stamp (stands s.0 s.1) in omega (arith, w, past)))

  pub at_place : (x : ℕ) → slice_get xs n ≡ Some x → (x ≡ stamp) ↔ IsStamp xs stamp
  at_place x here = ((λ same. (n, here ∙ ap Some same)), λ s. same_some x stamp (sym here ∙ stands s.0 s.1))
    where
      same_some : (a b : ℕ) → Some a ≡ Some b → a ≡ b
      same_some a b f = cc
