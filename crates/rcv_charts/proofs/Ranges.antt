-- A list that goes on number by number.
use Rattle.std.proofs.Common.{◌≡◌, ℕ, ◌+◌, List, [], ◌∷◌, ◌++◌, flat_map, sym, ◌∙◌, ap}
use Rattle.std.specs.List.{range_with_len}
use Rattle.std.proofs.lemmas.List.{map-id, flat_map_more}
use Rattle.std.proofs.lemmas.List.FromFn.{map-range_with_len_more}

pub range_more : (a n j : ℕ) → a + n ≡ j → range_with_len a (n + 1) ≡ range_with_len a n ++ j ∷ []
range_more a n j e = sym (map-id (range_with_len a (n + 1))) ∙ map-range_with_len_more (λ (p : ℕ). p) a n j e ∙ ap (λ r. r ++ j ∷ []) (map-id (range_with_len a n))

pub goes_on : {A : Type 0} (f : ℕ → List A) (a n j : ℕ) (start before after : List A) → a + n ≡ j → before ≡ start ++ flat_map f (range_with_len a n) → after ≡ before ++ f j → after ≡ start ++ flat_map f (range_with_len a (n + 1))
goes_on f a n j start before after e so more =
    more ∙ ap (λ t. t ++ f j) so ∙ flat_map_more f start (range_with_len a n) j ∙ ap (λ r. start ++ flat_map f r) (sym (range_more a n j e))
