-- Lemmas on lists, and on the slots of the messages.
use Rattle.std.proofs.Common.{◌≡◌, ◌≢◌, ℕ, zero, suc, ◌+◌, ◌≤◌, ◌<◌, ◌⊎◌, List, [], ◌∷◌, ◌++◌, length, refl, sym, ap, ◌∙◌, subst, ⊎_elim, inl, inr, arith, append_assoc, append-nil, length-append}
use mathlib.Core.Option.{some, some-injective, some-ne-none}
use lib.ListN.{get_elem?}
use Rattle.atomic_table.proofs.Lists.{one_turn}
use Rattle.rcv_ring.specs.Lists.{Begins}
use Rattle.rcv_ring.specs.Places.{place}

pub begins_longer : {A : Type 0} (xs ys zs : List A) → Begins xs ys → Begins xs (ys ++ zs)
begins_longer xs ys zs b = (b.0 ++ zs, sym (append_assoc xs b.0 zs) ∙ ap (λ l. l ++ zs) b.1)

pub begins_self : {A : Type 0} (xs : List A) → Begins xs xs
begins_self xs = ([], append-nil xs)

pub begins_length : {A : Type 0} (xs ys : List A) → Begins xs ys → length xs ≤ length ys
begins_length xs ys b = omega (arith, length-append xs b.0, ap length b.1)

begins_next_at : {A : Type 0} (a : A) (xs rest : List A) → get_elem? (xs ++ rest) (length xs) ≡ some a → Begins (xs ++ a ∷ []) (xs ++ rest)
begins_next_at a [] [] e = absurd (some-ne-none a (sym e))
begins_next_at a [] (y ∷ rest) e = (rest, ap (λ z. z ∷ rest) (sym (some-injective y a e)))
begins_next_at a (x ∷ xs) rest e = let b = begins_next_at a xs rest e in (b.0, ap (λ l. x ∷ l) b.1)

-- a beginning is longer by the next element
pub begins_next : {A : Type 0} (a : A) (xs ys : List A) → Begins xs ys → get_elem? ys (length xs) ≡ some a → Begins (xs ++ a ∷ []) ys
begins_next {A} a xs ys b e = let P : List A → Type 0 = λ l. get_elem? l (length xs) ≡ some a → Begins (xs ++ a ∷ []) l in subst P b.1 (begins_next_at a xs b.0) e

-- what is read stands in the list, and each place of the list is read
pub elem_lt : {A : Type 0} (l : List A) (i : ℕ) (a : A) → get_elem? l i ≡ some a → i < length l
elem_lt [] i a e = absurd (some-ne-none a (sym e))
elem_lt (x ∷ xs) zero a e = omega arith
elem_lt (x ∷ xs) (suc i) a e = let lt = elem_lt xs i a e in omega arith

pub elem_at : {A : Type 0} (l : List A) (i : ℕ) → i < length l → (a : A) × (get_elem? l i ≡ some a)
elem_at [] i lt = absurd (omega arith)
elem_at (x ∷ xs) zero lt = (x, refl)
elem_at (x ∷ xs) (suc i) lt = elem_at xs i (omega arith)

-- the seat that was added is the last
pub at_added : {A : Type 0} (l : List A) (a b : A) (j : ℕ) → get_elem? (l ++ a ∷ []) j ≡ some b → (get_elem? l j ≡ some b) ⊎ ((j ≡ length l) × (a ≡ b))
at_added [] a b zero e = inr (refl, some-injective a b e)
at_added [] a b (suc j) e = absurd (some-ne-none b (sym e))
at_added (x ∷ xs) a b zero e = inl e
at_added (x ∷ xs) a b (suc j) e = ⊎_elim (λ h. inl h) (λ h. inr (ap suc h.0, h.1)) (at_added xs a b j e)

-- two messages that lie in the ring at once have slots of their own
pub apart : (room a b : ℕ) → a < b → b < a + room → place room b ≢ place room a
apart room a b lt near e = let same : a ≡ b = one_turn a b room (omega arith) near (sym e) in omega arith
