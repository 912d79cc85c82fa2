-- What a search by stamp among the Sends of a role finds.
use Rattle.std.proofs.Common.{◌≡◌, ℕ, zero, suc, ◌+◌, ◌<◌, true, false, Some, List, [], ◌∷◌, ◌++◌, length, replicate, refl, sym, ◌∙◌, ap, subst, ⊎_elim, arith, ltb, ltb-true, ltb-false}
use Rattle.std.specs.Prelude.{slice_get, slice_index_or, slice_set}
use Rattle.std.specs.List.Sorted.{IsNonDecreasingBy, IsPartitionPoint}
use Rattle.std.specs.declared.alloc.Global.{Global}
use Rattle.std.specs.declared.vec.Vec.{Vec}
use Rattle.std.proofs.lemmas.Bool.{cases_lt}
use Rattle.std.proofs.lemmas.List.{get_or-map, map-set, map_push}
use Rattle.std.proofs.lemmas.Option.{slice_get_within, slice_get-get_or, slice_get_read, get_or_from_slice_get}
use Rattle.rcv_fates.specs.declared.sends.Sent.{Sent}
use Rattle.rcv_tree.specs.Lists.{lists_in}
use Rattle.rcv_fates.specs.Sends.{sends_at, with_sent, HasNoStamp, HasSent}

abbrev pub sent_of : ℕ → ℕ → Sent
sent_of stamp place = record { stamp = stamp; place = place }

pub item_at : (sends : List Sent) (n : ℕ) (x : Sent) → n < length sends → x ≡ slice_index_or sends n x → slice_get sends n ≡ Some x
item_at sends n x lt is = slice_get_read sends (length sends) n x refl lt is

pub found_at : (sends : List Sent) (stamp n : ℕ) (x : Sent) → slice_get sends n ≡ Some x → x.stamp ≡ stamp → HasSent sends stamp x.place
found_at sends stamp n x at same = (n, at ∙ ap (λ s. Some (sent_of s x.place)) same)

pub none_found : (sends : List Sent) (stamp n : ℕ) → IsNonDecreasingBy (λ (x : Sent). x.stamp) sends → IsPartitionPoint (λ (x : Sent). ltb x.stamp stamp ≡ true) (λ (x : Sent). ltb x.stamp stamp ≡ false) sends n → ((x : Sent) → slice_get sends n ≡ Some x → x.stamp ≡ stamp → ⊥) → HasNoStamp sends stamp
none_found sends stamp n rise point none i x at same = ⊎_elim
    (λ lt. absurd (let a = ltb-true _ stamp (point.0 i x (omega arith) lt) in omega (arith, a, is, same)))
    (λ le. ⊎_elim (λ lt. absurd (later lt)) (λ ge. none x (subst (λ k. slice_get sends k ≡ Some x) (omega (arith, le, ge)) at) same) (cases_lt n i))
    (cases_lt i n)
  where
    is : (slice_index_or sends i x).stamp ≡ x.stamp
    is = ap (λ (y : Sent). y.stamp) (get_or_from_slice_get sends i x x at)

    inside : i < length sends
    inside = slice_get_within sends i x at

    later : n < i → ⊥
    later lt =
        let here = slice_get-get_or sends n x (omega (arith, lt, inside)) in
        let a = ltb-false _ stamp (point.1 n x (omega arith) (omega (arith, lt, inside))) in
        let b = rise n i x (omega (arith, lt)) inside in
        none (slice_index_or sends n x) here (omega (arith, a, b, is, same))

-- the lists that the code holds
module _ (xs : List (Vec Sent Global)) (i : ℕ) (v w : Vec Sent Global) (lt : i < length xs) (is : w ≡ slice_index_or xs i w) where
  pub own_list : w.items ≡ sends_at (lists_in xs) i
  own_list = ap (λ (v : Vec Sent Global). v.items) is ∙ sym (get_or-map (λ (v : Vec Sent Global). v.items) xs i w [] lt)

  pub list_more : (x : Sent) → v.items ≡ w.items ++ x ∷ [] → lists_in (slice_set xs i v) ≡ with_sent (lists_in xs) i x
  list_more x e = map-set (λ (v : Vec Sent Global). v.items) xs i v ∙ ap (slice_set (lists_in xs) i) (e ∙ ap (λ l. l ++ x ∷ []) own_list)

replicate_more : {A : Type 0} (n : ℕ) (x : A) → replicate n x ++ x ∷ [] ≡ replicate (suc n) x
replicate_more zero x = refl
replicate_more (suc n) x = ap (λ l. x ∷ l) (replicate_more n x)

pub one_empty : (xs ys : List (Vec Sent Global)) (v : Vec Sent Global) (r : ℕ) → lists_in xs ≡ replicate r [] → ys ≡ xs ++ v ∷ [] → v.items ≡ [] → lists_in ys ≡ replicate (r + 1) []
one_empty xs ys v r are added bare =
    let one : suc r ≡ r + 1 = omega arith in
    ap lists_in added ∙ map_push (λ (v : Vec Sent Global). v.items) xs v ∙ ap (λ l. lists_in xs ++ l ∷ []) bare ∙ ap (λ l. l ++ [] ∷ []) are ∙ replicate_more r [] ∙ ap (λ n. replicate n []) one

pub lists_length : (xs : List (Vec Sent Global)) → length (lists_in xs) ≡ length xs
lists_length [] = refl
lists_length (x ∷ xs) = ap suc (lists_length xs)
