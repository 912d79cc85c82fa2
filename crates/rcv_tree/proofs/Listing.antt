-- The points of a set behind a number: the next one, or those of the next words.
use Rattle.std.proofs.Common.{◌≡◌, ℕ, zero, suc, ◌+◌, ◌-◌, ◌/◌, ◌%◌, ◌^◌, ◌<◌, true, false, ◌==◌, List, [], ◌∷◌, ◌++◌, cond, get_or, refl, sym, ◌∙◌, ap, subst, append_assoc, ⊎_elim, arith, w64}
use Rattle.std.specs.Int.{bit_at, trailing_zeros}
use Rattle.std.proofs.lemmas.Bool.{cases_lt}
use Rattle.std.proofs.lemmas.Nat.{shr-shr, shr_le}
use Rattle.std.proofs.lemmas.Nat.Bits.{bit_at_above, bit_at-zero, bit_at-trailing_zeros}
use Rattle.rcv_tree.specs.Bits.{has_bit, has_point, members, members_from}

-- numbers that aren't in the set are passed over
past : (words : List ℕ) (k n m first : ℕ) → m ≡ k + n → ((i : ℕ) → i < k → has_point words (first + i) ≡ false) → members_from words m first ≡ members_from words n (first + k)
past words zero n m first e none =
    let same : m ≡ n = omega (arith, e) in
    let here : first ≡ first + 0 = omega arith in
    ap (λ j. members_from words j first) same ∙ ap (members_from words n) here
past words (suc k) n m first e none =
    let one : m ≡ suc (k + n) = omega (arith, e) in
    let here : first + 0 ≡ first = omega arith in
    let there : first + 1 + k ≡ first + suc k = omega arith in
    let out : has_point words first ≡ false = subst (λ p. has_point words p ≡ false) here (none 0 (omega arith)) in
    ap (λ j. members_from words j first) one
    ∙ ap (λ b. cond b (first ∷ members_from words (k + n) (first + 1)) (members_from words (k + n) (first + 1))) out
    ∙ past words k n (k + n) (first + 1) refl (λ i lt. let up : first + suc i ≡ first + 1 + i = omega arith in subst (λ p. has_point words p ≡ false) up (none (suc i) (omega (arith, lt))))
    ∙ ap (members_from words n) there

-- what is left of a word from the number b on
abbrev pub left_of : List ℕ → ℕ → ℕ
left_of words b = get_or words (b / 64) 0 / 2 ^ (b % 64)

bit_left : (word s i : ℕ) → bit_at (word / 2 ^ s) i ≡ bit_at word (s + i)
bit_left word s i = ap (λ n. n % 2) (shr-shr word s i)

point_left : (words : List ℕ) (b i : ℕ) → b % 64 + i < 64 → has_point words (b + 1 + i) ≡ has_bit (left_of words b) i
point_left words b i lt =
    let word : (b + 1 + i - 1) / 64 ≡ b / 64 = omega (arith, lt) in
    let place : (b + 1 + i - 1) % 64 ≡ b % 64 + i = omega (arith, lt) in
    ap (λ k. has_bit (get_or words k 0) ((b + 1 + i - 1) % 64)) word
    ∙ ap (λ k. has_bit (get_or words (b / 64) 0) k) place
    ∙ ap (λ n. n == 1) (sym (bit_left (get_or words (b / 64) 0) (b % 64) i))

-- Nothing is left of a word: the next word comes.
pub word_done : (words done : List ℕ) (b : ℕ) → b < 256 → left_of words b ≡ 0 → done ++ members_from words (256 - b) (b + 1) ≡ members words → done ++ members_from words (256 - (b + (64 - b % 64))) (b + (64 - b % 64) + 1) ≡ members words
word_done words done b lt none told =
    let all : 256 - b ≡ (64 - b % 64) + (256 - (b + (64 - b % 64))) = omega (arith, lt) in
    let there : b + 1 + (64 - b % 64) ≡ b + (64 - b % 64) + 1 = omega arith in
    ap (λ l. done ++ l)
    (ap (members_from words (256 - (b + (64 - b % 64)))) (sym there)
    ∙ sym (past words (64 - b % 64) (256 - (b + (64 - b % 64))) (256 - b) (b + 1) all (λ i low. point_left words b i (omega (arith, low)) ∙ ap (λ w. has_bit w i) none ∙ ap (λ n. n == 1) (bit_at-zero i))))
    ∙ told

-- the place of the next point in what is left, whose word has 64 bits
pub next_within : (words : List ℕ) (b : ℕ) → get_or words (b / 64) 0 < 2 ^ 64 → 0 < left_of words b → b % 64 + trailing_zeros w64 (left_of words b) < 64
next_within words b fits some =
    ⊎_elim
    (λ lt. lt)
    (λ ge. let none = sym (lowest.1) ∙ bit_left (get_or words (b / 64) 0) (b % 64) (trailing_zeros w64 (left_of words b)) ∙ bit_at_above (get_or words (b / 64) 0) 64 (b % 64 + trailing_zeros w64 (left_of words b)) fits ge in absurd (omega (arith, none)))
    (cases_lt (b % 64 + trailing_zeros w64 (left_of words b)) 64)
  where
    below : left_of words b < 2 ^ 64
    below = let less = shr_le (get_or words (b / 64) 0) (b % 64) in omega (arith, less, fits)

    lowest : (trailing_zeros w64 (left_of words b) < 64) × (bit_at (left_of words b) (trailing_zeros w64 (left_of words b)) ≡ 1) × ((i : ℕ) → i < trailing_zeros w64 (left_of words b) → bit_at (left_of words b) i ≡ 0)
    lowest = bit_at-trailing_zeros w64 (left_of words b) some below

-- Something is left of it: the next point is listed.
pub next_listed : (words done more : List ℕ) (b : ℕ) → b < 256 → get_or words (b / 64) 0 < 2 ^ 64 → 0 < left_of words b → more ≡ done ++ (b + (trailing_zeros w64 (left_of words b) + 1)) ∷ [] → done ++ members_from words (256 - b) (b + 1) ≡ members words → more ++ members_from words (256 - (b + (trailing_zeros w64 (left_of words b) + 1))) (b + (trailing_zeros w64 (left_of words b) + 1) + 1) ≡ members words
next_listed words done more b lt fits some e told =
    let within = next_within words b fits some in
    let all : 256 - b ≡ t + suc (256 - (b + (t + 1))) = omega (arith, lt, within) in
    let here : b + 1 + t ≡ b + (t + 1) = omega arith in
    let none : (i : ℕ) → i < t → has_point words (b + 1 + i) ≡ false = λ i low. point_left words b i (omega (arith, low, within)) ∙ ap (λ n. n == 1) (lowest.2 i low) in
    let one : has_point words (b + (t + 1)) ≡ true = subst (λ p. has_point words p ≡ true) here (point_left words b t within ∙ ap (λ n. n == 1) lowest.1) in
    ap (λ l. l ++ rest) e
    ∙ append_assoc done ((b + (t + 1)) ∷ []) rest
    ∙ ap (λ l. done ++ l) (sym (past words t (suc (256 - (b + (t + 1)))) (256 - b) (b + 1) all none ∙ ap (members_from words (suc (256 - (b + (t + 1))))) here ∙ ap (λ y. cond y ((b + (t + 1)) ∷ rest) rest) one))
    ∙ told
  where
    t : ℕ
    t = trailing_zeros w64 (left_of words b)

    rest : List ℕ
    rest = members_from words (256 - (b + (t + 1))) (b + (t + 1) + 1)

    below : left_of words b < 2 ^ 64
    below = let less = shr_le (get_or words (b / 64) 0) (b % 64) in omega (arith, less, fits)

    lowest : (t < 64) × (bit_at (left_of words b) t ≡ 1) × ((i : ℕ) → i < t → bit_at (left_of words b) i ≡ 0)
    lowest = bit_at-trailing_zeros w64 (left_of words b) some below
