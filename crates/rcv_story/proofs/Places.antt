-- Lists of places: what is in their beginnings, and ascending ones.
use Rattle.std.proofs.Common.{◌≡◌, ℕ, zero, suc, ◌+◌, ◌-◌, ◌<◌, ◌≤◌, Option, Some, None, List, [], ◌∷◌, ◌++◌, length, take, drop, refl, sym, ◌∙◌, ap, subst, ◌⊎◌, inl, inr, ⊎_elim, arith}
use Rattle.std.specs.Prelude.{min, slice_get, MatchOption}
use Rattle.std.proofs.lemmas.Bool.{cases_eq}
use Rattle.rcv_model.specs.Net.{IsIn}
use Rattle.rcv_model.proofs.Lists.{some_same}
use Rattle.rcv_story.specs.Stacks.{last_in}

take_suc : {A : Type 0} (xs : List A) (q : ℕ) (x : A) → slice_get xs q ≡ Some x → take (suc q) xs ≡ take q xs ++ x ∷ []
take_suc [] q x at = absurd (cc)
take_suc (y ∷ xs) zero x at = ap (λ z. z ∷ []) (some_same at)
take_suc (y ∷ xs) (suc q) x at = ap (λ l. y ∷ l) (take_suc xs q x at)

pub take_more : {A : Type 0} (xs : List A) (q : ℕ) (x : A) → slice_get xs q ≡ Some x → take (q + 1) xs ≡ take q xs ++ x ∷ []
take_more xs q x at = let one : q + 1 ≡ suc q = omega arith in ap (λ (m : ℕ). take m xs) one ∙ take_suc xs q x at

take_past : {A : Type 0} (xs : List A) (q : ℕ) → slice_get xs q ≡ None → take (suc q) xs ≡ take q xs
take_past [] zero at = refl
take_past [] (suc q) at = refl
take_past (y ∷ xs) zero at = absurd (cc)
take_past (y ∷ xs) (suc q) at = ap (λ l. y ∷ l) (take_past xs q at)

pub take_over : {A : Type 0} (xs : List A) (q : ℕ) → slice_get xs q ≡ None → take (q + 1) xs ≡ take q xs
take_over xs q at = let one : q + 1 ≡ suc q = omega arith in ap (λ (m : ℕ). take m xs) one ∙ take_past xs q at

pub take_length : {A : Type 0} (xs : List A) (q : ℕ) → q ≤ length xs → length (take q xs) ≡ q
take_length xs zero le = refl
take_length [] (suc q) le = absurd (omega (arith, le))
take_length (x ∷ xs) (suc q) le = ap suc (take_length xs q (omega (arith, le)))

pub take_min : {A : Type 0} (n : ℕ) (xs : List A) → take (min (length xs) n) xs ≡ take n xs
take_min zero xs = let none : min (length xs) 0 ≡ 0 = omega arith in ap (λ (m : ℕ). take m xs) none
take_min (suc n) [] = let none : min 0 (suc n) ≡ 0 = omega arith in ap (λ (m : ℕ). take m []) none
take_min (suc n) (x ∷ xs) = let one : min (suc (length xs)) (suc n) ≡ suc (min (length xs) n) = omega arith in ap (λ (m : ℕ). take m (x ∷ xs)) one ∙ ap (λ l. x ∷ l) (take_min n xs)

-- what is in a list
pub in_left : (p : ℕ) (xs ys : List ℕ) → IsIn p xs → IsIn p (xs ++ ys)
in_left p [] ys i = absurd i
in_left p (x ∷ xs) ys (inl e) = inl e
in_left p (x ∷ xs) ys (inr i) = inr (in_left p xs ys i)

pub in_last : (xs : List ℕ) (p : ℕ) → IsIn p (xs ++ p ∷ [])
in_last [] p = inl refl
in_last (x ∷ xs) p = inr (in_last xs p)

pub in_more : (p q : ℕ) (xs : List ℕ) → IsIn p (xs ++ q ∷ []) → IsIn p xs ⊎ (p ≡ q)
in_more p q [] (inl e) = inr e
in_more p q [] (inr i) = absurd i
in_more p q (x ∷ xs) (inl e) = inl (inl e)
in_more p q (x ∷ xs) (inr i) = ⊎_elim (λ j. inl (inr j)) inr (in_more p q xs i)

pub in_take : (n p : ℕ) (xs : List ℕ) → IsIn p (take n xs) → IsIn p xs
in_take zero p xs i = absurd i
in_take (suc n) p [] i = absurd i
in_take (suc n) p (x ∷ xs) (inl e) = inl e
in_take (suc n) p (x ∷ xs) (inr i) = inr (in_take n p xs i)

pub in_drop : (n p : ℕ) (xs : List ℕ) → IsIn p (drop n xs) → IsIn p xs
in_drop zero p xs i = i
in_drop (suc n) p [] i = absurd i
in_drop (suc n) p (x ∷ xs) i = inr (in_drop n p xs i)

pub in_parts : (n p : ℕ) (xs : List ℕ) → IsIn p xs → IsIn p (take n xs) ⊎ IsIn p (drop n xs)
in_parts zero p xs i = inr i
in_parts (suc n) p [] i = absurd i
in_parts (suc n) p (x ∷ xs) (inl e) = inl (inl e)
in_parts (suc n) p (x ∷ xs) (inr i) = ⊎_elim (λ j. inl (inr j)) inr (in_parts n p xs i)

pub is_in : (p : ℕ) (xs : List ℕ) → IsIn p xs ⊎ (IsIn p xs → ⊥)
is_in p [] = inr (λ i. i)
is_in p (x ∷ xs) = ⊎_elim (λ e. inl (inl e)) (λ ne. ⊎_elim (λ i. inl (inr i)) (λ ni. inr (λ o. ⊎_elim ne ni o)) (is_in p xs)) (cases_eq p x)

pub in_at : (xs : List ℕ) (n p : ℕ) → slice_get xs n ≡ Some p → IsIn p xs
in_at [] n p at = absurd (cc)
in_at (x ∷ xs) zero p at = inl (sym (some_same at))
in_at (x ∷ xs) (suc n) p at = inr (in_at xs n p at)

-- places that ascend
abbrev pub Ascends : List ℕ → Type 0
Ascends [] = Unit {0}
Ascends (x ∷ xs) = ((o : ℕ) → IsIn o xs → x < o) × Ascends xs

pub ascends_more : (xs : List ℕ) (k : ℕ) → Ascends xs → ((p : ℕ) → IsIn p xs → p < k) → Ascends (xs ++ k ∷ [])
ascends_more [] k a low = ((λ o i. absurd i), tt)
ascends_more (x ∷ xs) k a low = (
  (λ o i. ⊎_elim (λ j. a.0 o j) (λ e. let f = low x (inl refl) in omega (arith, e, f)) (in_more o k xs i)),
  ascends_more xs k a.1 (λ p i. low p (inr i)),
)

pub ascends_take : (n : ℕ) (xs : List ℕ) → Ascends xs → Ascends (take n xs)
ascends_take zero xs a = tt
ascends_take (suc n) [] a = tt
ascends_take (suc n) (x ∷ xs) a = ((λ o i. a.0 o (in_take n o xs i)), ascends_take n xs a.1)

-- what is in a beginning isn't in the rest
pub apart : (n p : ℕ) (xs : List ℕ) → Ascends xs → IsIn p (take n xs) → IsIn p (drop n xs) → ⊥
apart zero p xs a i j = i
apart (suc n) p [] a i j = i
apart (suc n) p (x ∷ xs) a (inl e) j = let f = a.0 p (in_drop n p xs j) in omega (arith, e, f)
apart (suc n) p (x ∷ xs) a (inr i) j = apart n p xs a.1 i j

-- the first one of the rest
pub record IsHead (xs : List ℕ) (n p : ℕ) : Type 0 where
  pub had : IsIn p xs
  pub out : IsIn p (take n xs) → ⊥
  pub first : (o : ℕ) → IsIn o xs → (IsIn o (take n xs) → ⊥) → p ≤ o

head_at : (xs : List ℕ) (n p : ℕ) → Ascends xs → slice_get xs n ≡ Some p → IsHead xs n p
head_at [] n p a at = absurd (cc)
head_at (x ∷ xs) zero p a at = record {
  had = inl (sym (some_same at));
  out = λ i. i;
  first = λ o i out. ⊎_elim (λ e. let f : x ≡ p = some_same at in omega (arith, e, f)) (λ j. let f : x ≡ p = some_same at in let b = a.0 o j in omega (arith, f, b)) i;
}
head_at (x ∷ xs) (suc n) p a at =
    let h = head_at xs n p a.1 at in
    record {
      had = inr h.had;
      out = λ i. ⊎_elim (λ e. let f = a.0 p h.had in omega (arith, e, f)) h.out i;
      first = λ o i out. ⊎_elim (λ e. absurd (out (inl e))) (λ j. h.first o j (λ k. out (inr k))) i;
    }

whole_at : (xs : List ℕ) (n : ℕ) → slice_get xs n ≡ None → take n xs ≡ xs
whole_at [] zero at = refl
whole_at [] (suc n) at = refl
whole_at (x ∷ xs) zero at = absurd (cc)
whole_at (x ∷ xs) (suc n) at = ap (λ l. x ∷ l) (whole_at xs n at)

pub first_of_rest : (xs : List ℕ) (n : ℕ) → Ascends xs → MatchOption (slice_get xs n) (take n xs ≡ xs) (λ p. IsHead xs n p)
first_of_rest xs n a = go (slice_get xs n) refl
  where
    go : (o : Option ℕ) → slice_get xs n ≡ o → MatchOption o (take n xs ≡ xs) (λ p. IsHead xs n p)
    go None at = whole_at xs n at
    go (Some p) at = head_at xs n p a at

-- the last one
pub record IsEnd (xs : List ℕ) (p : ℕ) : Type 0 where
  pub inside : IsIn p xs
  pub last : (o : ℕ) → IsIn o xs → o ≤ p

end_at : (x : ℕ) (xs : List ℕ) (p : ℕ) → Ascends (x ∷ xs) → slice_get (x ∷ xs) (length xs) ≡ Some p → IsEnd (x ∷ xs) p
end_at x [] p a at = record { inside = inl (sym (some_same at)); last = λ o i. ⊎_elim (λ e. let f : x ≡ p = some_same at in omega (arith, e, f)) (λ j. absurd j) i }
end_at x (y ∷ xs) p a at =
    let h = end_at y xs p a.1 at in
    record { inside = inr h.inside; last = λ o i. ⊎_elim (λ e. let f = a.0 p h.inside in omega (arith, e, f)) (h.last o) i }

end_there : (x : ℕ) (xs : List ℕ) → slice_get (x ∷ xs) (length xs) ≡ None → ⊥
end_there x [] at = absurd (cc)
end_there x (y ∷ xs) at = end_there y xs at

pub last_of_all : (xs : List ℕ) → Ascends xs → MatchOption (last_in xs) (xs ≡ []) (λ p. IsEnd xs p)
last_of_all [] a = refl
last_of_all (x ∷ xs) a = subst (λ n. MatchOption (slice_get (x ∷ xs) n) (x ∷ xs ≡ []) (λ p. IsEnd (x ∷ xs) p)) size (go (slice_get (x ∷ xs) (length xs)) refl)
  where
    size : length xs ≡ length (x ∷ xs) - 1
    size = omega arith

    go : (o : Option ℕ) → slice_get (x ∷ xs) (length xs) ≡ o → MatchOption o (x ∷ xs ≡ []) (λ p. IsEnd (x ∷ xs) p)
    go None at = absurd (end_there x xs at)
    go (Some p) at = end_at x xs p a at
