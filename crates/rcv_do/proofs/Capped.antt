-- Numbers that stop above a limit.
use Rattle.std.proofs.Common.{◌≡◌, ℕ, ◌+◌, min, max, ap, ◌∙◌, arith}
use Rattle.rcv_do.specs.declared.sizes.Size.{Size}

pub cap_add : (a b : ℕ) → min (min a 257 + b) 257 ≡ min (a + b) 257
cap_add a b = omega arith

pub cap_sum : (a b : ℕ) → min (min a 257 + min b 257) 257 ≡ min (a + b) 257
cap_sum a b = omega arith

pub cap_one : (d : ℕ) → min (min d 33 + 1) 33 ≡ min (d + 1) 33
cap_one d = omega arith

pub cap_max : (s d : ℕ) → max (min s 33) (min d 33) ≡ min (max s d) 33
cap_max s d = omega arith

pub cap_deep : (s d w : ℕ) → max (min s 33) (min (min d 33 + min w 33) 33) ≡ min (max s (d + w)) 33
cap_deep s d w = omega arith

pub size_is : (z : Size) (a b : ℕ) → z.points ≡ a → z.blocks ≡ b → z ≡ record { points = a; blocks = b }
size_is z a b e f = ap (λ (x : ℕ). record { points = x; blocks = z.blocks }) e ∙ ap (λ (y : ℕ). record { points = a; blocks = y }) f
