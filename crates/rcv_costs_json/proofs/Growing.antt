-- Lists that grow.
use Rattle.std.proofs.Common.{◌≡◌, ℕ, ◌+◌, ◌<◌, List, [], ◌∷◌, ◌++◌, take, length, map, get_or, sym, ◌∙◌, ap, subst, arith}
use Rattle.std.specs.List.{All, range_with_len}
use Rattle.std.proofs.lemmas.List.FromFn.{map-range_with_len_more}
use Rattle.std.proofs.lemmas.List.{take_more, map-append}
use Rattle.serde_json.specs.Data.{Data}
use Rattle.serde_json.specs.View.{view}
use Rattle.serde_json.specs.declared.value.Value.{Value}
use Rattle.std.proofs.lemmas.List.Elements.{All-nil, All-cons, All-append}
use Rattle.rcv_costs.specs.declared.numbers.Cost.{Cost}
use Rattle.rcv_costs_json.specs.Told.{FitsNumbers}

-- one cost more fits
pub one_fits : (costs : List Cost) (i : ℕ) (cost : Cost) → i < length costs → cost ≡ get_or costs i cost → All FitsNumbers (take i costs) → FitsNumbers cost → All FitsNumbers (take (i + 1) costs)
one_fits costs i cost lt e all here =
    subst (All FitsNumbers) (sym (take_more costs i cost lt ∙ ap (λ (y : Cost). take i costs ++ y ∷ []) (sym e)))
    (All-append FitsNumbers (take i costs) (cost ∷ []) all (All-cons FitsNumbers cost [] here (All-nil FitsNumbers)))

-- one value more
pub one_value : (f : Cost → Data) (costs : List Cost) (i : ℕ) (cost : Cost) (values : List Value) (value : Value) → i < length costs → cost ≡ get_or costs i cost → map view values ≡ map f (take i costs) → view value ≡ f cost → map view (values ++ value ∷ []) ≡ map f (take (i + 1) costs)
one_value f costs i cost values value lt e so here =
    map-append view values (value ∷ [])
    ∙ ap (λ (l : List Data). l ++ view value ∷ []) so
    ∙ ap (λ (d : Data). map f (take i costs) ++ d ∷ []) here
    ∙ sym (map-append f (take i costs) (cost ∷ []))
    ∙ ap (map f) (sym (take_more costs i cost lt ∙ ap (λ (y : Cost). take i costs ++ y ∷ []) (sym e)))

pub one_role_value : (f : ℕ → Data) (n : ℕ) (values : List Value) (value : Value) → map view values ≡ map f (range_with_len 0 n) → view value ≡ f n → map view (values ++ value ∷ []) ≡ map f (range_with_len 0 (n + 1))
one_role_value f n values value so here =
    map-append view values (value ∷ [])
    ∙ ap (λ (l : List Data). l ++ view value ∷ []) so
    ∙ ap (λ (d : Data). map f (range_with_len 0 n) ++ d ∷ []) here
    ∙ sym (map-range_with_len_more f 0 n n (omega arith))
