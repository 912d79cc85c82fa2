-- Lists that grow number by number, and place by place.
use Rattle.std.proofs.Common.{◌≡◌, ℕ, ◌+◌, Bool, true, false, cond, List, [], ◌∷◌, ◌++◌, flat_map, map, sym, ◌∙◌, ap, append-nil, arith}
use Rattle.std.specs.List.{filter, range_with_len}
use Rattle.std.proofs.lemmas.List.{map-append, map-id, flat_map_more}
use Rattle.std.proofs.lemmas.List.FromFn.{filter_of_map_range_with_len_more, map-range_with_len_more}
use Rattle.rcv_model.specs.Net.{Net}
use Rattle.rcv_project.specs.LocalText.{is_own, places_to}

range_more : (a n j : ℕ) → a + n ≡ j → range_with_len a (n + 1) ≡ range_with_len a n ++ j ∷ []
range_more a n j e = sym (map-id (range_with_len a (n + 1))) ∙ map-range_with_len_more (λ (p : ℕ). p) a n j e ∙ ap (λ r. r ++ j ∷ []) (map-id (range_with_len a n))

pub goes_on : {A : Type 0} (f : ℕ → List A) (a n j : ℕ) (start before after : List A) → a + n ≡ j → before ≡ start ++ flat_map f (range_with_len a n) → after ≡ before ++ f j → after ≡ start ++ flat_map f (range_with_len a (n + 1))
goes_on f a n j start before after e so more =
    more ∙ ap (λ t. t ++ f j) so ∙ flat_map_more f start (range_with_len a n) j ∙ ap (λ r. start ++ flat_map f r) (sym (range_more a n j e))

-- the places as far as one point more
places_more : (net : Net) (r n : ℕ) → places_to net r (n + 1) ≡ places_to net r n ++ cond (is_own net r (n + 1)) ((n + 1) ∷ []) []
places_more net r n =
    let next : 1 + n ≡ n + 1 = omega arith in
    let whole : (m : ℕ) → filter (is_own net r) (map (λ (p : ℕ). p) (range_with_len 1 m)) ≡ filter (is_own net r) (range_with_len 1 m) = λ m. ap (filter (is_own net r)) (map-id (range_with_len 1 m)) in
    ap (λ ps. 0 ∷ ps) (sym (whole (n + 1)) ∙ filter_of_map_range_with_len_more (is_own net r) (λ (p : ℕ). p) 1 n (n + 1) next ∙ ap (λ ps. ps ++ cond (is_own net r (n + 1)) ((n + 1) ∷ []) []) (whole n))

own_more : {A : Type 0} (f : ℕ → A) (ps : List ℕ) (p : ℕ) (own : Bool) → map f ps ++ cond own (f p ∷ []) [] ≡ map f (ps ++ cond own (p ∷ []) [])
own_more f ps p true = sym (map-append f ps (p ∷ []))
own_more f ps p false = append-nil (map f ps) ∙ ap (map f) (sym (append-nil ps))

pub place_added : {A : Type 0} (net : Net) (r : ℕ) (f : ℕ → A) (n : ℕ) (before after : List A) → before ≡ map f (places_to net r n) → after ≡ before ++ cond (is_own net r (n + 1)) (f (n + 1) ∷ []) [] → after ≡ map f (places_to net r (n + 1))
place_added net r f n before after so more =
    more
    ∙ ap (λ t. t ++ cond (is_own net r (n + 1)) (f (n + 1) ∷ []) []) so
    ∙ own_more f (places_to net r n) (n + 1) (is_own net r (n + 1))
    ∙ ap (map f) (sym (places_more net r n))
