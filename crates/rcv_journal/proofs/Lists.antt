-- Lists that go on by one more number.
use Rattle.std.proofs.Common.{◌≡◌, ℕ, zero, suc, ◌+◌, List, [], ◌∷◌, ◌++◌, flat_map, sym, ◌∙◌, ap, arith}
use Rattle.std.specs.List.{range_with_len}
use Rattle.std.proofs.lemmas.List.{flat_map_more}

range_more : (a n : ℕ) → range_with_len a (suc n) ≡ range_with_len a n ++ (a + n) ∷ []
range_more a zero = ap (λ x. x ∷ []) (omega arith)
range_more a (suc n) =
    let next : a + 1 + n ≡ a + suc n = omega arith in
    ap (λ xs. a ∷ xs) (range_more (a + 1) n ∙ ap (λ x. range_with_len (a + 1) n ++ x ∷ []) next)

-- what is said of each number from 0 on, and of one more
pub said_of_one_more : (said : ℕ → List ℕ) (n : ℕ) → flat_map said (range_with_len 0 n) ++ said n ≡ flat_map said (range_with_len 0 (n + 1))
said_of_one_more said n =
    let more : n + 1 ≡ suc n = omega arith in
    let next = ap (range_with_len 0) more ∙ range_more 0 n ∙ ap (λ k. range_with_len 0 n ++ k ∷ []) (omega arith) in
    flat_map_more said [] (range_with_len 0 n) n ∙ ap (flat_map said) (sym next)
