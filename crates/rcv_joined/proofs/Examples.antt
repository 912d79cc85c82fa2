-- The definitions at short texts and short lists.
use Rattle.std.proofs.Common.{◌≡◌, ℕ, true, false, List, [], ◌∷◌, length, codes, refl, sym, ◌∙◌, ap, arith}
use Rattle.std.specs.Fmt.{digits}
use Rattle.std.specs.Prelude.{slice_index_or}
use Rattle.rcv_joined.specs.Joined.{joined}
use Rattle.rcv_joined.proofs.Places.{Are, one_list, some_list}

-- two texts, each behind its heading
behind_headings : joined false 0 (codes "a\n" ∷ codes "bc\n" ∷ []) ≡ codes "session 1\na\nsession 2\nbc\n"
unfolding digits
behind_headings = refl

-- from the tenth session on a heading has two digits
of_two_digits : joined false 9 (codes "a\n" ∷ []) ≡ codes "session 10\na\n"
unfolding digits
of_two_digits = refl

-- JSON has no headings
json_alone : joined true 0 (codes "{}\n" ∷ codes "[]\n" ∷ []) ≡ codes "{}\n[]\n"
json_alone = refl

-- no session has no bytes
none_at_all : joined false 0 [] ≡ []
none_at_all = refl

-- the texts in another order are other bytes
not_in_another_order : joined false 0 (codes "a" ∷ codes "bc" ∷ []) ≡ codes "session 1\nbcsession 2\na" → ⊥
unfolding digits
not_in_another_order same = let letter : 97 ≡ 98 = ap (λ l. slice_index_or l 10 0) same in absurd (omega (arith, letter))

-- the sessions aren't counted from 0
not_from_nought : joined false 0 (codes "a" ∷ []) ≡ codes "session 0\na" → ⊥
unfolding digits
not_from_nought same = let digit : 49 ≡ 48 = ap (λ l. slice_index_or {A = ℕ} l 8 0) same in absurd (omega (arith, digit))

-- and one session has a heading, too
not_without_heading : joined false 0 (codes "a" ∷ []) ≡ codes "a" → ⊥
unfolding digits
not_without_heading same = let longer : 11 ≡ 1 = ap length same in absurd (omega (arith, longer))

-- the list that has at each place the number of the place: there is one, whatever its length
abbrev IsPlace : ℕ → ℕ → Type 0
IsPlace i x = x ≡ i

a_list_of_places : (n : ℕ) → (xs : List ℕ) × Are IsPlace 0 n xs
a_list_of_places n = some_list IsPlace (λ i. (i, refl)) n 0

no_other_list : (n : ℕ) (xs ys : List ℕ) → Are IsPlace 0 n xs → Are IsPlace 0 n ys → xs ≡ ys
no_other_list n xs ys a b = one_list IsPlace (λ i x y e f. e ∙ sym f) n 0 xs ys a b

-- and not one with two of them exchanged
not_exchanged : Are IsPlace 0 2 (1 ∷ 0 ∷ []) → ⊥
not_exchanged are = let first : 1 ≡ 0 = are.each 0 0 (omega arith) in absurd (omega (arith, first))
