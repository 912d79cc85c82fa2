-- States that get one place more.
use Rattle.std.proofs.Common.{◌≡◌, ◌≢◌, ℕ, suc, ◌+◌, ◌<◌, ◌≤◌, Bool, true, false, not, cond, length, List, [], ◌∷◌, ◌++◌, map, refl, sym, ◌∙◌, ap, subst, inl, inr, ⊎_elim, append-nil, arith}
use Rattle.std.specs.Prelude.{◌⊎◌, ◌==◌, if◌then◌else◌, nat_lt, Some, None, position, slice_set, slice_index_or}
use Rattle.std.specs.List.{filter, range_with_len, position_or_len, AllByRecursion}
use Rattle.std.specs.Str.{bytes_eq}
use Rattle.std.proofs.lemmas.Bool.{and_parts, and_from}
use Rattle.std.proofs.lemmas.Bool.Decides.{nat_tests, Decides-eqb}
use Rattle.std.proofs.lemmas.List.{map-id}
use Rattle.std.proofs.lemmas.List.FromFn.{filter_of_map_range_with_len_more}
use Rattle.std.proofs.lemmas.Slice.Eq.{bytes_eq-Decides}
use Rattle.rcv_model.specs.Net.{Net, IsIn}
use Rattle.rcv_project.specs.Act.{ActView, Sending, Receiving, Ended, AreInText, IsActAt}
use Rattle.rcv_project.specs.LocalText.{is_own, places_to}
use Rattle.rcv_charts.specs.States.{StateView, times, times_in, IsState, same_act, HasAct, AreDifferent, alone, grown, with_place, next_in, AreMadeTo}

-- the places as far as one point more
pub places_more : (net : Net) (r n : ℕ) → places_to net r (n + 1) ≡ places_to net r n ++ cond (is_own net r (n + 1)) ((n + 1) ∷ []) []
places_more net r n =
    let next : 1 + n ≡ n + 1 = omega arith in
    let whole : (m : ℕ) → filter (is_own net r) (map (λ (p : ℕ). p) (range_with_len 1 m)) ≡ filter (is_own net r) (range_with_len 1 m) = λ m. ap (filter (is_own net r)) (map-id (range_with_len 1 m)) in
    ap (λ ps. 0 ∷ ps) (sym (whole (n + 1)) ∙ filter_of_map_range_with_len_more (is_own net r) (λ (p : ℕ). p) 1 n (n + 1) next ∙ ap (λ ps. ps ++ cond (is_own net r (n + 1)) ((n + 1) ∷ []) []) (whole n))

pub times-append : (k : ℕ) (xs ys : List ℕ) → times k (xs ++ ys) ≡ times k xs + times k ys
times-append k [] ys = omega arith
times-append k (x ∷ xs) ys = let more = times-append k xs ys in omega (arith, more)

-- where a position that was found is
pub position_is : {X : Type 0} (p : X → Bool) (xs : List X) (i : ℕ) → position p xs ≡ Some i → (i < length xs) × (i ≡ position_or_len p xs)
position_is p xs i e = go (nat_lt (position_or_len p xs) (length xs)) refl e
  where
    go : (b : Bool) → nat_lt (position_or_len p xs) (length xs) ≡ b → cond b (Some (position_or_len p xs)) None ≡ Some i → (i < length xs) × (i ≡ position_or_len p xs)
    go true lt e = let same : position_or_len p xs ≡ i = cc in (grind (arith, nat_tests), sym same)
    go false lt e = absurd (cc)

pub position_none : {X : Type 0} (p : X → Bool) (xs : List X) → position p xs ≡ None → length xs ≤ position_or_len p xs
position_none p xs e = go (nat_lt (position_or_len p xs) (length xs)) refl e
  where
    go : (b : Bool) → nat_lt (position_or_len p xs) (length xs) ≡ b → cond b (Some (position_or_len p xs)) None ≡ None → length xs ≤ position_or_len p xs
    go true lt e = absurd (cc)
    go false lt e = grind (arith, nat_tests)

-- the state with the act has one place more, or there is one more state
pub placed_in : (act : ActView) (place : ℕ) (d : StateView) (states : List StateView) → position_or_len (λ (s : StateView). same_act s.act act) states < length states → slice_set states (position_or_len (λ (s : StateView). same_act s.act act) states) (grown (slice_index_or states (position_or_len (λ (s : StateView). same_act s.act act) states) d) place) ≡ with_place act place states
placed_in act place d [] lt = absurd (omega arith)
placed_in act place d (s ∷ ss) lt = go (same_act s.act act) lt (placed_in act place d ss)
  where
    n : ℕ
    n = position_or_len (λ (s : StateView). same_act s.act act) ss

    go : (b : Bool) → cond (not b) (1 + n) 0 < length (s ∷ ss) → (n < length ss → slice_set ss n (grown (slice_index_or ss n d) place) ≡ with_place act place ss) → slice_set (s ∷ ss) (cond (not b) (1 + n) 0) (grown (slice_index_or (s ∷ ss) (cond (not b) (1 + n) 0) d) place) ≡ (if b then grown s place ∷ ss else s ∷ with_place act place ss)
    go true lt rest = refl
    go false lt rest = subst (λ m. slice_set (s ∷ ss) m (grown (slice_index_or (s ∷ ss) m d) place) ≡ s ∷ with_place act place ss) (sym after) (ap (λ xs. s ∷ xs) (rest (omega (arith, lt))))
      where
        after : 1 + n ≡ suc n
        after = omega arith

pub placed_behind : (act : ActView) (place : ℕ) (states : List StateView) → length states ≤ position_or_len (λ (s : StateView). same_act s.act act) states → states ++ alone act place ∷ [] ≡ with_place act place states
placed_behind act place [] le = refl
placed_behind act place (s ∷ ss) le = go (same_act s.act act) le (placed_behind act place ss)
  where
    n : ℕ
    n = position_or_len (λ (s : StateView). same_act s.act act) ss

    go : (b : Bool) → length (s ∷ ss) ≤ cond (not b) (1 + n) 0 → (length ss ≤ n → ss ++ alone act place ∷ [] ≡ with_place act place ss) → s ∷ (ss ++ alone act place ∷ []) ≡ (if b then grown s place ∷ ss else s ∷ with_place act place ss)
    go true le rest = absurd (omega (arith, le))
    go false le rest = ap (λ xs. s ∷ xs) (rest (omega (arith, le)))

-- a place more is counted once
pub more_place : (act : ActView) (place k : ℕ) (states : List StateView) → times_in k (with_place act place states) ≡ times_in k states + times k (place ∷ [])
more_place act place k [] = omega arith
more_place act place k (s ∷ ss) = go (same_act s.act act) (more_place act place k ss)
  where
    go : (b : Bool) → times_in k (with_place act place ss) ≡ times_in k ss + times k (place ∷ []) → times_in k (if b then grown s place ∷ ss else s ∷ with_place act place ss) ≡ times_in k (s ∷ ss) + times k (place ∷ [])
    go true rest = let more = times-append k s.places (place ∷ []) in omega (arith, more)
    go false rest = omega (arith, rest)

-- the test on acts
pub same_from : (a b : ActView) → same_act a b ≡ true → a ≡ b
same_from (Sending a) (Sending b) e = ap Sending ((bytes_eq-Decides a b).0 e)
same_from (Receiving from a) (Receiving other b) e =
    let both = and_parts (from == other) (bytes_eq a b) e in
    ap (λ n. Receiving n a) ((Decides-eqb from other).0 both.0) ∙ ap (Receiving other) ((bytes_eq-Decides a b).0 both.1)
same_from Ended Ended e = refl
same_from (Sending a) (Receiving from b) e = absurd (cc)
same_from (Sending a) Ended e = absurd (cc)
same_from (Receiving from a) (Sending b) e = absurd (cc)
same_from (Receiving from a) Ended e = absurd (cc)
same_from Ended (Sending b) e = absurd (cc)
same_from Ended (Receiving from b) e = absurd (cc)

same_self : (a : ActView) → same_act a a ≡ true
same_self (Sending a) = (bytes_eq-Decides a a).1 refl
same_self (Receiving from a) = and_from (from == from) (bytes_eq a a) ((Decides-eqb from from).1 refl) ((bytes_eq-Decides a a).1 refl)
same_self Ended = refl

-- a place at the end of others
in_more : (k place : ℕ) (xs : List ℕ) → IsIn k (xs ++ place ∷ []) → IsIn k xs ⊎ (k ≡ place)
in_more k place [] (inl e) = inr e
in_more k place [] (inr none) = elim none [ ]
in_more k place (x ∷ xs) (inl e) = inl (inl e)
in_more k place (x ∷ xs) (inr i) = ⊎_elim (λ h. inl (inr h)) (λ e. inr e) (in_more k place xs i)

module _ (net : Net) (r : ℕ) where
  alone_is : (act : ActView) (place : ℕ) → IsActAt net r place act → IsState net r (alone act place)
  alone_is act place is = record {
    some = λ e. absurd (cc);
    acts = λ k i. ⊎_elim (λ e. subst (λ (n : ℕ). IsActAt net r n act) (sym e) is) (λ none. absurd none) i;
  }

  grown_is : (state : StateView) (place : ℕ) → IsState net r state → IsActAt net r place state.act → IsState net r (grown state place)
  grown_is state place was is = record {
    some = λ e. not_empty state.places place e;
    acts = λ k i. ⊎_elim (was.acts k) (λ e. subst (λ (n : ℕ). IsActAt net r n state.act) (sym e) is) (in_more k place state.places i);
  }
    where
      not_empty : (xs : List ℕ) (x : ℕ) → (xs ++ x ∷ []) ≢ []
      not_empty [] x e = absurd (cc)
      not_empty (y ∷ ys) x e = absurd (cc)

  -- the states say what the role does
  pub each_more : (act : ActView) (place : ℕ) (states : List StateView) → IsActAt net r place act → AllByRecursion (IsState net r) states → AllByRecursion (IsState net r) (with_place act place states)
  each_more act place [] is was = (alone_is act place is, tt)
  each_more act place (s ∷ ss) is was = go (same_act s.act act) refl (each_more act place ss is was.1)
    where
      go : (b : Bool) → same_act s.act act ≡ b → AllByRecursion (IsState net r) (with_place act place ss) → AllByRecursion (IsState net r) (if b then grown s place ∷ ss else s ∷ with_place act place ss)
      go true e rest = (grown_is s place was.0 (subst (λ (a : ActView). IsActAt net r place a) (sym (same_from s.act act e)) is), was.1)
      go false e rest = (was.0, rest)

-- next points of the text alone
pub texts_more : (net : Net) (act : ActView) (place : ℕ) (states : List StateView) → AreInText net (next_in act) → AllByRecursion (λ (s : StateView). AreInText net (next_in s.act)) states → AllByRecursion (λ (s : StateView). AreInText net (next_in s.act)) (with_place act place states)
texts_more net act place [] is was = (is, tt)
texts_more net act place (s ∷ ss) is was = go (same_act s.act act) (texts_more net act place ss is was.1)
  where
    go : (b : Bool) → AllByRecursion (λ (s : StateView). AreInText net (next_in s.act)) (with_place act place ss) → AllByRecursion (λ (s : StateView). AreInText net (next_in s.act)) (if b then grown s place ∷ ss else s ∷ with_place act place ss)
    go true rest = (was.0, was.1)
    go false rest = (was.0, rest)

-- no two states have one act
has_more : (a act : ActView) (place : ℕ) (states : List StateView) → HasAct a (with_place act place states) → HasAct a states ⊎ (act ≡ a)
has_more a act place [] (inl e) = inr e
has_more a act place [] (inr none) = elim none [ ]
has_more a act place (s ∷ ss) has = go (same_act s.act act) has (has_more a act place ss)
  where
    go : (b : Bool) → HasAct a (if b then grown s place ∷ ss else s ∷ with_place act place ss) → (HasAct a (with_place act place ss) → HasAct a ss ⊎ (act ≡ a)) → HasAct a (s ∷ ss) ⊎ (act ≡ a)
    go true has rest = inl has
    go false (inl e) rest = inl (inl e)
    go false (inr h) rest = ⊎_elim (λ i. inl (inr i)) (λ e. inr e) (rest h)

pub different_more : (act : ActView) (place : ℕ) (states : List StateView) → AreDifferent states → AreDifferent (with_place act place states)
different_more act place [] was = ((λ none. absurd none), tt)
different_more act place (s ∷ ss) was = go (same_act s.act act) refl (different_more act place ss was.1)
  where
    go : (b : Bool) → same_act s.act act ≡ b → AreDifferent (with_place act place ss) → AreDifferent (if b then grown s place ∷ ss else s ∷ with_place act place ss)
    go true e rest = was
    go false e rest = ((λ has. ⊎_elim was.0 (λ same. absurd (differ same)) (has_more s.act act place ss has)), rest)
      where
        differ : act ≡ s.act → ⊥
        differ same = let self = same_self s.act in let here = ap (same_act s.act) same in absurd (cc)

module _ (net : Net) (r : ℕ) where
  pub none_made : (act : ActView) (states : List StateView) → states ≡ with_place act 0 [] → IsActAt net r 0 act → AreInText net (next_in act) → AreMadeTo net r 0 states
  none_made act states made is text = subst (AreMadeTo net r 0) (sym made) (record {
    each_once = λ k. omega arith;
    each = each_more net r act 0 [] is tt;
    different = different_more act 0 [] tt;
    in_text = texts_more net act 0 [] text tt;
  })

  -- one point more, which is the role's or isn't
  pub own_place : (n : ℕ) (act : ActView) (before after : List StateView) → AreMadeTo net r n before → is_own net r (n + 1) ≡ true → after ≡ with_place act (n + 1) before → IsActAt net r (n + 1) act → AreInText net (next_in act) → AreMadeTo net r (n + 1) after
  own_place n act before after are own made is text = subst (AreMadeTo net r (n + 1)) (sym made) (record {
    each_once = λ k.
        more_place act (n + 1) k before ∙ ap (λ m. m + times k ((n + 1) ∷ [])) (are.each_once k) ∙ sym (times-append k (places_to net r n) ((n + 1) ∷ []))
        ∙ sym (ap (times k) (places_more net r n ∙ ap (λ b. places_to net r n ++ cond b ((n + 1) ∷ []) []) own));
    each = each_more net r act (n + 1) before is are.each;
    different = different_more act (n + 1) before are.different;
    in_text = texts_more net act (n + 1) before text are.in_text;
  })

  pub no_place : (n : ℕ) (states : List StateView) → AreMadeTo net r n states → is_own net r (n + 1) ≡ false → AreMadeTo net r (n + 1) states
  no_place n states are other = record {
    each_once = λ k.
        are.each_once k ∙ sym (ap (times k) (places_more net r n ∙ ap (λ b. places_to net r n ++ cond b ((n + 1) ∷ []) []) other ∙ append-nil (places_to net r n)));
    each = are.each;
    different = are.different;
    in_text = are.in_text;
  }
