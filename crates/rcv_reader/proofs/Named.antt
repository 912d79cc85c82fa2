-- Roles by their bits, and by their names.
use Rattle.std.proofs.Common.{◌≡◌, ℕ, ◌<◌, ◌≤◌, Bool, true, false, ◌||◌, ◌==◌, bytes_eq, List, length, Option, Some, None, refl, ap, ◌∙◌, arith}
use Rattle.std.proofs.Math.Path.{fun_ext}
use Rattle.std.proofs.lemmas.Nat.Bits.{bit_at-zero}
use Rattle.std.proofs.lemmas.Slice.Eq.{bytes_eq-Decides}
use Rattle.rcv_tree.specs.Bits.{has_bit}
use Rattle.rcv_tree.proofs.Naming.{is_named}
use Rattle.rcv_machine.specs.Words.{place_of, nobody, with_role}
use Rattle.rcv_machine.proofs.Naming.{bytes_sym, same_place}
use Rattle.rcv_reader.specs.Descent.{has_place, named_in}

nothing : (o : Option ℕ) → has_place 0 o ≡ false
nothing None = refl
nothing (Some r) = rw (bit_at-zero r) refl

-- no bit is set
pub nobody_named : (roles : List (List ℕ)) → named_in roles 0 ≡ nobody
nobody_named roles = fun_ext (λ n. nothing (place_of roles n))

either : (a b : Bool) → (a || b) ≡ (b || a)
either true true = refl
either false false = refl
either _ _ = refl

-- one bit more is set
pub named_more : (roles : List (List ℕ)) (bits more r : ℕ) (n : List ℕ) → length roles ≤ 8 → place_of roles n ≡ Some r
    → ((q : ℕ) → q < 8 → has_bit more q ≡ (has_bit bits q || r == q))
    → named_in roles more ≡ with_role (named_in roles bits) n
named_more roles bits more r n few is set = fun_ext (λ m. go m (place_of roles m) refl)
  where
    go : (m : List ℕ) (o : Option ℕ) → place_of roles m ≡ o → has_place more o ≡ (bytes_eq m n || has_place bits o)
    go m None e = other (bytes_eq m n) refl
      where
        other : (b : Bool) → bytes_eq m n ≡ b → false ≡ (b || false)
        other true same = let place = ap (place_of roles) ((bytes_eq-Decides m n).0 same) in absurd cc
        other false same = refl
    go m (Some q) e =
        let below = (is_named roles m q e).0 in
        let same : (r == q) ≡ bytes_eq m n = same_place roles n m r q is e ∙ bytes_sym n m in
        set q (omega (arith, below, few)) ∙ rw same (either (has_bit bits q) (bytes_eq m n))
