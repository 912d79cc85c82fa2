-- Numbers by their bits.
use Rattle.std.proofs.Common.{◌≡◌, ℕ, zero, suc, ◌+◌, ◌/◌, ◌^◌, ◌<◌, ◌≤◌, false, ◌==◌, sym, ◌∙◌, ap, subst, arith}
use Rattle.std.proofs.lemmas.Bool.Decides.{nat_tests}
use Rattle.std.proofs.lemmas.Nat.Bits.{bit_at-zero, bit_at-lt, bit_at-suc, same_from_bits_below}
use Rattle.std.specs.Int.{bit_at}
use Rattle.rcv_tree.specs.Bits.{has_bit}

-- A bit that isn't set is 0.
pub no_bit : (c i : ℕ) → has_bit c i ≡ false → bit_at c i ≡ 0
no_bit c i clear = go (bit_at c i) (bit_at-lt c i) clear
  where
    go : (b : ℕ) → b < 2 → (b == 1) ≡ false → b ≡ 0
    go b small clear = grind (arith, nat_tests)

-- 0 has no bit.
pub zero_has_none : (i : ℕ) → has_bit 0 i ≡ false
zero_has_none i = ap (λ b. b == 1) (bit_at-zero i)

-- A number with no bit below its width is 0.
pub all_clear : (n c : ℕ) → c < 2 ^ n → ((i : ℕ) → i < n → bit_at c i ≡ 0) → c ≡ 0
all_clear n c small clear = same_from_bits_below n c 0 small (positive n) (λ i below. clear i below ∙ sym (bit_at-zero i))
  where
    positive : (n : ℕ) → 0 < 2 ^ n
    positive zero = omega arith
    positive (suc n) = omega (arith, positive n)

-- A number with no bit from n on is below 2 ^ n.
pub below_bits : (n k c : ℕ) → c < 2 ^ (n + k) → ((i : ℕ) → n ≤ i → i < n + k → bit_at c i ≡ 0) → c < 2 ^ n
below_bits zero k c small clear = omega (arith, all_clear k c (subst (λ m. c < 2 ^ m) (zero_more k) small) (λ i below. clear i (omega arith) (omega arith)))
  where
    zero_more : (k : ℕ) → 0 + k ≡ k
    zero_more k = omega arith
below_bits (suc n) k c small clear =
    let half = below_bits n k (c / 2) (halved (n + k) (subst (λ m. c < 2 ^ m) (suc_more n k) small)) (λ i from below. sym (bit_at-suc c i) ∙ clear (suc i) (omega arith) (omega arith)) in
    omega (arith, half)
  where
    suc_more : (n k : ℕ) → suc n + k ≡ suc (n + k)
    suc_more n k = omega arith

    halved : (m : ℕ) → c < 2 ^ suc m → c / 2 < 2 ^ m
    halved m below = omega arith
