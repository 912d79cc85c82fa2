-- How deep the texts of a module are: with it a recursion that enters a called text is measured. The protocols that may
-- still be called are fewer there, and no text is deeper than the deepest one.
use Rattle.std.proofs.Common.{◌≡◌, ℕ, zero, suc, ◌+◌, ◌*◌, ◌<◌, ◌≤◌, max, Some, List, [], ◌∷◌, length, length-append, ap, arith}
use Rattle.std.specs.Prelude.{slice_get}
use Rattle.std.proofs.Math.Nat.{mul-le-mul_left}
use Rattle.rcv_tree.specs.declared.protocol.Protocol.{Protocol}
use Rattle.rcv_tree.specs.declared.statement.Block.{size-Block}
use Rattle.rcv_do.specs.Code.{IsFront}

abbrev pub deepest : List Protocol → ℕ
deepest [] = 0
deepest (p ∷ ps) = max (size-Block p.body) (deepest ps)

-- the measure: of a part so deep of a text from which so many protocols may be called
abbrev pub left_to_do : List Protocol → List ℕ → ℕ → ℕ
left_to_do ps under depth = suc (deepest ps) * length under + depth

none_deeper : (ps : List Protocol) (i : ℕ) (p : Protocol) → slice_get ps i ≡ Some p → size-Block p.body ≤ deepest ps
none_deeper [] i p e = absurd (cc)
none_deeper (q ∷ ps) zero p e =
    let same : q ≡ p = cc in
    let depth : size-Block q.body ≡ size-Block p.body = ap (λ (x : Protocol). size-Block x.body) same in
    omega (arith, depth)
none_deeper (q ∷ ps) (suc i) p e = let le = none_deeper ps i p e in omega (arith, le)

fewer : (order : List ℕ) (place : ℕ) (front : List ℕ) → IsFront order place front → length front + 1 ≤ length order
fewer order place front f =
    let long = ap length f.is in
    let both = length-append front (place ∷ f.behind) in
    omega (arith, long, both)

-- Less is left in a text that is entered.
pub less_left : (ps : List Protocol) (order front : List ℕ) (place : ℕ) (p : Protocol) (depth t : ℕ) → slice_get ps place ≡ Some p → IsFront order place front
    → left_to_do ps order depth ≡ t → left_to_do ps front (size-Block p.body) < t
less_left ps order front place p depth t at f is =
    let deep = none_deeper ps place p at in
    let product : suc (deepest ps) * (length front + 1) ≤ suc (deepest ps) * length order = mul-le-mul_left (suc (deepest ps)) (fewer order place front f) in
    omega (arith, deep, product, is)
