-- Examples of names and their places, and laws: a name stands at its place and at none before it, and a name without a place stands nowhere.
use Rattle.std.proofs.Common.{◌≡◌, ℕ, ◌<◌, List, [], ◌∷◌, length, codes, Option, Some, None, Bool, true, false, refl, ap, arith, bytes_eq, slice_index_or}
use Rattle.std.specs.Prelude.{unwrap_or, nat_lt}
use Rattle.std.specs.List.{position_or_len}
use Rattle.std.proofs.lemmas.Bool.Decides.{nat_tests}
use Rattle.std.proofs.lemmas.List.Quantifiers.{position-Some}
use Rattle.std.proofs.lemmas.List.Sums.{fails_before_first, position_or_len_is}
use Rattle.std.proofs.lemmas.Slice.Eq.{bytes_eq-Decides}
use Rattle.rcv_tree.specs.Names.{name_at, place_of}

second_is_named : name_at (codes "Buyer" ∷ codes "Seller" ∷ []) 1 ≡ codes "Seller"
second_is_named = refl

third_is_empty : name_at (codes "Buyer" ∷ codes "Seller" ∷ []) 2 ≡ []
third_is_empty = refl

first_isnt_second : name_at (codes "Buyer" ∷ codes "Seller" ∷ []) 0 ≡ codes "Seller" → ⊥
first_isnt_second e = let letters : 66 ≡ 83 = ap (λ (l : List ℕ). slice_index_or l 0 0) e in omega (arith, letters)

first_place_counts : place_of (codes "Buyer" ∷ codes "Seller" ∷ codes "Seller" ∷ []) (codes "Seller") ≡ Some 1
first_place_counts = refl

later_place_doesnt : place_of (codes "Buyer" ∷ codes "Seller" ∷ codes "Seller" ∷ []) (codes "Seller") ≡ Some 2 → ⊥
later_place_doesnt e = let places : 1 ≡ 2 = ap (λ (o : Option ℕ). unwrap_or o 0) e in omega (arith, places)

stranger_has_none : place_of (codes "Buyer" ∷ []) (codes "Seller") ≡ None
stranger_has_none = refl

-- A name stands at its place.
pub is_named : (names : List (List ℕ)) (name : List ℕ) (place : ℕ) → place_of names name ≡ Some place
    → (place < length names) × (name_at names place ≡ name)
is_named names name place is =
    let found = position-Some (λ other. bytes_eq other name) names place [] is in
    (found.0, (bytes_eq-Decides (name_at names place) name).0 found.1)

-- A name without a place stands nowhere.
pub is_nowhere : (names : List (List ℕ)) (name : List ℕ) → place_of names name ≡ None
    → (place : ℕ) → place < length names → name_at names place ≡ name → ⊥
is_nowhere names name none place inside is =
    let before : place < position_or_len (λ other. bytes_eq other name) names = grind (arith, nat_tests, none) in
    let differs = fails_before_first (λ other. bytes_eq other name) names place [] before in
    let same = (bytes_eq-Decides (name_at names place) name).1 is in
    absurd cc

differs_from : (one other : List ℕ) → (one ≡ other → ⊥) → bytes_eq one other ≡ false
differs_from one other apart = go (bytes_eq one other) refl
  where
    go : (same : Bool) → bytes_eq one other ≡ same → same ≡ false
    go true is = absurd (apart ((bytes_eq-Decides one other).0 is))
    go false is = refl

-- The first place at which a name stands is its place.
pub is_placed : (names : List (List ℕ)) (name : List ℕ) (place : ℕ) → place < length names → name_at names place ≡ name
    → ((before : ℕ) → before < place → name_at names before ≡ name → ⊥) → place_of names name ≡ Some place
is_placed names name place inside is first =
    let test = λ (other : List ℕ). bytes_eq other name in
    let at : position_or_len test names ≡ place = position_or_len_is test names place [] (omega (arith, inside))
    (λ before less. differs_from (name_at names before) name (first before less))
    (λ _. (bytes_eq-Decides (name_at names place) name).1 is) in
    let short : nat_lt place (length names) ≡ true = grind (arith, nat_tests) in
    rw (at, short) refl
