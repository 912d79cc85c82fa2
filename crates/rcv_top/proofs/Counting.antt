-- A text that goes on number by number, from 0.
use Rattle.std.proofs.Common.{◌≡◌, ℕ, ◌+◌, List, [], ◌∷◌, ◌++◌, flat_map, sym, ◌∙◌, ap, arith}
use Rattle.std.specs.List.{range_with_len}
use Rattle.std.proofs.lemmas.List.{map-id, flat_map_more}
use Rattle.std.proofs.lemmas.List.FromFn.{map-range_with_len_more}

range_more : (n : ℕ) → range_with_len 0 (n + 1) ≡ range_with_len 0 n ++ n ∷ []
range_more n = sym (map-id (range_with_len 0 (n + 1))) ∙ map-range_with_len_more (λ (p : ℕ). p) 0 n n (omega arith) ∙ ap (λ r. r ++ n ∷ []) (map-id (range_with_len 0 n))

pub goes_on : (f : ℕ → List ℕ) (n : ℕ) (start before after : List ℕ) → before ≡ start ++ flat_map f (range_with_len 0 n) → after ≡ before ++ f n → after ≡ start ++ flat_map f (range_with_len 0 (n + 1))
goes_on f n start before after so more =
    more ∙ ap (λ t. t ++ f n) so ∙ flat_map_more f start (range_with_len 0 n) n ∙ ap (λ r. start ++ flat_map f r) (sym (range_more n))
