-- Bits of words of 64 bits.
use Rattle.std.proofs.Common.{◌≡◌, ℕ, zero, suc, ◌*◌, ◌%◌, ◌^◌, ◌<◌, Bool, true, false, ◌==◌, ◌||◌, refl, sym, ap, subst, ⊎_elim, arith, bit_or, max, w64}
use Rattle.std.specs.Int.{bit_at}
use Rattle.std.proofs.lemmas.Bool.{cases_eq}
use Rattle.std.proofs.lemmas.Bool.Decides.{nat_tests}
use Rattle.std.proofs.lemmas.Nat.Bits.{bit_at_or, bit_at-lt, bit_at_set_same, bit_at_set_other}
use Rattle.rcv_tree.specs.Bits.{has_bit}

-- a bit of both
pub has_or : (a b i : ℕ) → has_bit (bit_or a b) i ≡ (has_bit a i || has_bit b i)
has_or a b i = go (bit_at a i) (bit_at b i) (bit_at-lt a i) (bit_at-lt b i) (bit_at_or a b i)
  where
    go : (x y : ℕ) → x < 2 → y < 2 → bit_at (bit_or a b) i ≡ max x y → has_bit (bit_or a b) i ≡ (x == 1 || y == 1)
    go zero zero p q e = ap (λ n. n == 1) e
    go zero (suc zero) p q e = ap (λ n. n == 1) e
    go (suc zero) zero p q e = ap (λ n. n == 1) e
    go (suc zero) (suc zero) p q e = ap (λ n. n == 1) e
    go zero (suc (suc y)) p q e = absurd (omega arith)
    go (suc (suc x)) y p q e = absurd (omega arith)
    go (suc zero) (suc (suc y)) p q e = absurd (omega arith)

-- one place more
pub has_with : (a r i : ℕ) → r < 64 → has_bit (bit_or a (1 * 2 ^ r % 18446744073709551616)) i ≡ (has_bit a i || r == i)
has_with a r i lt = ⊎_elim
    (λ e.
    let eq : (r == i) ≡ true = grind (arith, nat_tests) in
    let one : bit_at (bit_or a (1 * 2 ^ r % 18446744073709551616)) i ≡ 1 = subst (λ k. bit_at (bit_or a (1 * 2 ^ r % 18446744073709551616)) k ≡ 1) (sym e) (bit_at_set_same w64 a r lt) in
    rw (one, eq) (go (has_bit a i)))
    (λ ne.
    let neq : (r == i) ≡ false = grind (arith, nat_tests) in
    let other : bit_at (bit_or a (1 * 2 ^ r % 18446744073709551616)) i ≡ bit_at a i = bit_at_set_other w64 a r lt i ne in
    rw (other, neq) (back (has_bit a i)))
    (cases_eq i r)
  where
    go : (b : Bool) → true ≡ (b || true)
    go true = refl
    go false = refl

    back : (b : Bool) → b ≡ (b || false)
    back true = refl
    back false = refl
