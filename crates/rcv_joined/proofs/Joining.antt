-- One journal more.
use Prim.Native.Nat.{zero, suc}
use Rattle.std.proofs.Common.{◌≡◌, ℕ, ◌+◌, ◌<◌, Bool, List, [], ◌∷◌, ◌++◌, length, take, map, sym, ◌∙◌, ap, arith, append_assoc, append-nil, slice_index_or}
use Rattle.std.specs.Borrow.{Bor}
use Rattle.rcv_joined.specs.Joined.{heading, joined}

-- The texts that are lent.
abbrev lent : List (Bor (List ℕ)) → List (List ℕ)
lent texts = map (λ t. t.now) texts

-- behind the texts that stand before it, of which the first is that of session i
one_behind : (json : Bool) (i : ℕ) (texts : List (Bor (List ℕ))) (k : ℕ) (d : Bor (List ℕ)) → k < length texts
    → joined json i (lent (take (suc k) texts)) ≡ joined json i (lent (take k texts)) ++ (heading json (i + k) ++ (slice_index_or texts k d).now)
one_behind json i [] k d lt = absurd (omega (arith, lt))
one_behind json i (t ∷ texts) zero d lt =
    append-nil (heading json i ++ t.now) ∙ ap (λ (n : ℕ). heading json n ++ t.now) (omega arith)
one_behind json i (t ∷ texts) (suc k) d lt =
    let x : List ℕ = (slice_index_or texts k d).now in
    let rest = one_behind json (i + 1) texts k d (omega (arith, lt)) in
    let place : (i + 1) + k ≡ i + suc k = omega arith in
    ap (λ (l : List ℕ). (heading json i ++ t.now) ++ l) (rest ∙ ap (λ (n : ℕ). joined json (i + 1) (lent (take k texts)) ++ (heading json n ++ x)) place)
    ∙ sym (append_assoc (heading json i ++ t.now) (joined json (i + 1) (lent (take k texts))) (heading json (i + suc k) ++ x))

-- from the first session on
pub next_one : (json : Bool) (texts : List (Bor (List ℕ))) (k : ℕ) (d : Bor (List ℕ)) → k < length texts
    → joined json 0 (map (λ t. t.now) (take k texts)) ++ (heading json k ++ (slice_index_or texts k d).now) ≡ joined json 0 (map (λ t. t.now) (take (k + 1) texts))
next_one json texts k d lt =
    let same : 0 + k ≡ k = omega arith in
    let next : suc k ≡ k + 1 = omega arith in
    ap (λ (n : ℕ). joined json 0 (lent (take k texts)) ++ (heading json n ++ (slice_index_or texts k d).now)) (sym same)
    ∙ (sym (one_behind json 0 texts k d lt) ∙ ap (λ (n : ℕ). joined json 0 (lent (take n texts))) next)
