-- The bits of two words that are set in both, or in the first alone, and the words that have none.
use Rattle.std.proofs.Common.{◌≡◌, ℕ, zero, suc, ◌+◌, ◌-◌, ◌*◌, ◌/◌, ◌%◌, ◌^◌, ◌<◌, ◌≤◌, Bool, true, false, ◌==◌, ◌||◌, ◌&&◌, not, List, [], ◌∷◌, ◌++◌, get_or, refl, sym, ◌∙◌, ap, subst, append-nil, arith, bit_and, bit_or, min}
use Rattle.std.specs.Prelude.{bit_xor}
use Rattle.std.specs.Int.{bit_at}
use Rattle.std.proofs.lemmas.Nat.Bits.{bit_at_and, bit_at_xor, bit_at-lt, bit_at-zero, same_from_bits_below}
use Rattle.rcv_tree.specs.Bits.{has_bit, has_point, members, members_from, IsPoint}
use Rattle.rcv_tree.proofs.Unions.{has_or}

has_and : (a b i : ℕ) → has_bit (bit_and a b) i ≡ (has_bit a i && has_bit b i)
has_and a b i = go (bit_at a i) (bit_at b i) (bit_at-lt a i) (bit_at-lt b i) (bit_at_and a b i)
  where
    go : (x y : ℕ) → x < 2 → y < 2 → bit_at (bit_and a b) i ≡ min x y → has_bit (bit_and a b) i ≡ (x == 1 && y == 1)
    go zero zero p q e = ap (λ n. n == 1) e
    go zero (suc zero) p q e = ap (λ n. n == 1) e
    go (suc zero) zero p q e = ap (λ n. n == 1) e
    go (suc zero) (suc zero) p q e = ap (λ n. n == 1) e
    go zero (suc (suc y)) p q e = absurd (omega arith)
    go (suc (suc x)) y p q e = absurd (omega arith)
    go (suc zero) (suc (suc y)) p q e = absurd (omega arith)

-- the bits of the first that differ from both
has_xor : (a b i : ℕ) (y : Bool) → has_bit b i ≡ (has_bit a i && y) → has_bit (bit_xor a b) i ≡ (has_bit a i && not y)
has_xor a b i y e = go (bit_at a i) (bit_at b i) y (bit_at-lt a i) (bit_at-lt b i) e (bit_at_xor a b i)
  where
    go : (x z : ℕ) (y : Bool) → x < 2 → z < 2 → (z == 1) ≡ (x == 1 && y) → bit_at (bit_xor a b) i ≡ (x + z) % 2 → has_bit (bit_xor a b) i ≡ (x == 1 && not y)
    go zero zero y p q f e = ap (λ n. n == 1) e
    go zero (suc zero) y p q f e = absurd (cc)
    go (suc zero) zero true p q f e = absurd (cc)
    go (suc zero) zero false p q f e = ap (λ n. n == 1) e
    go (suc zero) (suc zero) true p q f e = ap (λ n. n == 1) e
    go (suc zero) (suc zero) false p q f e = absurd (cc)
    go zero (suc (suc z)) y p q f e = absurd (omega arith)
    go (suc (suc x)) z y p q f e = absurd (omega arith)
    go (suc zero) (suc (suc z)) y p q f e = absurd (omega arith)

-- each word of two sets, made one
abbrev pub by_words : (ℕ → ℕ → ℕ) → List ℕ → List ℕ → List ℕ
by_words f xs ys = f (get_or xs 0 0) (get_or ys 0 0) ∷ f (get_or xs 1 0) (get_or ys 1 0) ∷ f (get_or xs 2 0) (get_or ys 2 0) ∷ f (get_or xs 3 0) (get_or ys 3 0) ∷ []

word_of : (f : ℕ → ℕ → ℕ) (xs ys : List ℕ) (i : ℕ) → i < 4 → get_or (by_words f xs ys) i 0 ≡ f (get_or xs i 0) (get_or ys i 0)
word_of f xs ys zero lt = refl
word_of f xs ys (suc zero) lt = refl
word_of f xs ys (suc (suc zero)) lt = refl
word_of f xs ys (suc (suc (suc zero))) lt = refl
word_of f xs ys (suc (suc (suc (suc i)))) lt = absurd (omega arith)

pub point_of_common : (xs ys : List ℕ) (p : ℕ) → IsPoint p → has_point (by_words bit_and xs ys) p ≡ (has_point xs p && has_point ys p)
point_of_common xs ys p point =
    let low : (p - 1) / 64 < 4 = omega (arith, point.last) in
    ap (λ w. has_bit w ((p - 1) % 64)) (word_of bit_and xs ys ((p - 1) / 64) low) ∙ has_and (get_or xs ((p - 1) / 64) 0) (get_or ys ((p - 1) / 64) 0) ((p - 1) % 64)

pub point_of_first : (xs ys zs : List ℕ) (p : ℕ) → IsPoint p → has_point zs p ≡ (has_point xs p && has_point ys p) → has_point (by_words bit_xor xs zs) p ≡ (has_point xs p && not (has_point ys p))
point_of_first xs ys zs p point common =
    let low : (p - 1) / 64 < 4 = omega (arith, point.last) in
    ap (λ w. has_bit w ((p - 1) % 64)) (word_of bit_xor xs zs ((p - 1) / 64) low) ∙ has_xor (get_or xs ((p - 1) / 64) 0) (get_or zs ((p - 1) / 64) 0) ((p - 1) % 64) (has_point ys p) common

-- Four words in one: it is 0 where no point is in the set.
abbrev pub all_words : List ℕ → ℕ
all_words xs = bit_or (bit_or (bit_or (get_or xs 0 0) (get_or xs 1 0)) (get_or xs 2 0)) (get_or xs 3 0)

has_all : (xs : List ℕ) (i : ℕ) → has_bit (all_words xs) i ≡ (((has_bit (get_or xs 0 0) i || has_bit (get_or xs 1 0) i) || has_bit (get_or xs 2 0) i) || has_bit (get_or xs 3 0) i)
has_all xs i =
    has_or (bit_or (bit_or (get_or xs 0 0) (get_or xs 1 0)) (get_or xs 2 0)) (get_or xs 3 0) i
    ∙ ap (λ b. b || has_bit (get_or xs 3 0) i) (has_or (bit_or (get_or xs 0 0) (get_or xs 1 0)) (get_or xs 2 0) i ∙ ap (λ b. b || has_bit (get_or xs 2 0) i) (has_or (get_or xs 0 0) (get_or xs 1 0) i))

none_of : (a b c d : Bool) → (((a || b) || c) || d) ≡ false → (a ≡ false) × (b ≡ false) × (c ≡ false) × (d ≡ false)
none_of false false false false e = (refl, refl, refl, refl)
none_of false false false true e = absurd (cc)
none_of false false true d e = absurd (cc)
none_of false true c d e = absurd (cc)
none_of true b c d e = absurd (cc)

zero_bit : (i : ℕ) → has_bit 0 i ≡ false
zero_bit i = ap (λ n. n == 1) (bit_at-zero i)

pub empty_has_none : (xs : List ℕ) (p : ℕ) → IsPoint p → all_words xs ≡ 0 → has_point xs p ≡ false
empty_has_none xs p point e = go ((p - 1) / 64) (omega (arith, point.last))
  where
    none : (has_bit (get_or xs 0 0) ((p - 1) % 64) ≡ false) × (has_bit (get_or xs 1 0) ((p - 1) % 64) ≡ false) × (has_bit (get_or xs 2 0) ((p - 1) % 64) ≡ false) × (has_bit (get_or xs 3 0) ((p - 1) % 64) ≡ false)
    none = none_of _ _ _ _ (sym (has_all xs ((p - 1) % 64)) ∙ ap (λ w. has_bit w ((p - 1) % 64)) e ∙ zero_bit ((p - 1) % 64))

    go : (i : ℕ) → i < 4 → has_bit (get_or xs i 0) ((p - 1) % 64) ≡ false
    go zero lt = none.0
    go (suc zero) lt = none.1
    go (suc (suc zero)) lt = none.2
    go (suc (suc (suc zero))) lt = none.3
    go (suc (suc (suc (suc i)))) lt = absurd (omega arith)

no_bit : (w i : ℕ) → has_bit w i ≡ false → bit_at w i ≡ 0
no_bit w i e = go (bit_at w i) (bit_at-lt w i) e
  where
    go : (x : ℕ) → x < 2 → (x == 1) ≡ false → x ≡ 0
    go zero p f = refl
    go (suc zero) p f = absurd (cc)
    go (suc (suc x)) p f = absurd (omega arith)

point_number : (k i : ℕ) → k < 4 → i < 64 → (IsPoint (64 * k + i + 1)) × (((64 * k + i + 1) - 1) / 64 ≡ k) × (((64 * k + i + 1) - 1) % 64 ≡ i)
point_number k i kl il = (record { first = omega arith; last = omega arith }, omega arith, omega arith)

bit_none : (xs : List ℕ) (k i : ℕ) → k < 4 → i < 64 → ((p : ℕ) → IsPoint p → has_point xs p ≡ false) → has_bit (get_or xs k 0) i ≡ false
bit_none xs k i kl il all =
    let n = point_number k i kl il in
    subst (λ j. has_bit (get_or xs k 0) j ≡ false) n.2 (subst (λ j. has_bit (get_or xs j 0) (((64 * k + i + 1) - 1) % 64) ≡ false) n.1 (all (64 * k + i + 1) n.0))

word_none : (xs : List ℕ) (k : ℕ) → k < 4 → get_or xs k 0 < 2 ^ 64 → ((p : ℕ) → IsPoint p → has_point xs p ≡ false) → get_or xs k 0 ≡ 0
word_none xs k kl small all = same_from_bits_below 64 (get_or xs k 0) 0 small (omega arith) (λ i lt. no_bit (get_or xs k 0) i (bit_none xs k i kl lt all) ∙ sym (bit_at-zero i))

pub none_is_empty : (xs : List ℕ) → get_or xs 0 0 < 2 ^ 64 → get_or xs 1 0 < 2 ^ 64 → get_or xs 2 0 < 2 ^ 64 → get_or xs 3 0 < 2 ^ 64 → ((p : ℕ) → IsPoint p → has_point xs p ≡ false) → all_words xs ≡ 0
none_is_empty xs e f g h all =
    ap (λ w. bit_or (bit_or (bit_or w (get_or xs 1 0)) (get_or xs 2 0)) (get_or xs 3 0)) (word_none xs 0 (omega arith) e all)
    ∙ ap (λ w. bit_or (bit_or (bit_or 0 w) (get_or xs 2 0)) (get_or xs 3 0)) (word_none xs 1 (omega arith) f all)
    ∙ ap (λ w. bit_or (bit_or (bit_or 0 0) w) (get_or xs 3 0)) (word_none xs 2 (omega arith) g all)
    ∙ ap (λ w. bit_or (bit_or (bit_or 0 0) 0) w) (word_none xs 3 (omega arith) h all)

-- The points of a set among all numbers.
pub members_are : (words : List ℕ) (n : ℕ) → n ≡ 256 → members_from words n 1 ≡ members words
unfolding members
members_are words n e = ap (λ k. members_from words k 1) e

pub members_all : (words done : List ℕ) (i : ℕ) → 256 ≤ i → done ++ members_from words (256 - i) (i + 1) ≡ members words → done ≡ members words
members_all words done i past told = let none : 256 - i ≡ 0 = omega (arith, past) in sym (append-nil done) ∙ ap (λ n. done ++ members_from words n (i + 1)) (sym none) ∙ told
