-- The lists of stamps that the code holds.
use Rattle.std.proofs.Common.{◌≡◌, ℕ, zero, suc, ◌+◌, ◌<◌, List, [], ◌∷◌, ◌++◌, length, take, replicate, refl, sym, ◌∙◌, ap, ap₂, subst, ◌≤◌, ⊎_elim, arith}
use Rattle.std.specs.Prelude.{slice_index_or, slice_set}
use Rattle.std.specs.declared.alloc.Global.{Global}
use Rattle.std.specs.declared.vec.Vec.{Vec}
use Rattle.std.proofs.lemmas.Bool.{cases_eq, cases_lt}
use Rattle.std.proofs.lemmas.List.{get_or-map, map-set, map_push, length-set, get_or-set_same, get_or-set_other}
use Rattle.rcv_tree.specs.Lists.{lists_in}
use Rattle.rcv_retold.specs.Stamps.{stamps_at, with_stamp, cut_to}

-- that of a role, with one stamp more, and with its first ones alone
module _ (xs : List (Vec ℕ Global)) (i : ℕ) (v w : Vec ℕ Global) (lt : i < length xs) (is : w ≡ slice_index_or xs i w) where
  pub own_list : w.items ≡ stamps_at (lists_in xs) i
  own_list = ap (λ (v : Vec ℕ Global). v.items) is ∙ sym (get_or-map (λ (v : Vec ℕ Global). v.items) xs i w [] lt)

  pub list_more : (x : ℕ) → v.items ≡ w.items ++ x ∷ [] → lists_in (slice_set xs i v) ≡ with_stamp (lists_in xs) i x
  list_more x e = map-set (λ (v : Vec ℕ Global). v.items) xs i v ∙ ap (slice_set (lists_in xs) i) (e ∙ ap (λ l. l ++ x ∷ []) own_list)

  pub list_cut : (n : ℕ) → v.items ≡ take n w.items → lists_in (slice_set xs i v) ≡ cut_to (lists_in xs) i n
  list_cut n e = map-set (λ (v : Vec ℕ Global). v.items) xs i v ∙ ap (slice_set (lists_in xs) i) (e ∙ ap (take n) own_list)

replicate_more : {A : Type 0} (n : ℕ) (x : A) → replicate n x ++ x ∷ [] ≡ replicate (suc n) x
replicate_more zero x = refl
replicate_more (suc n) x = ap (λ l. x ∷ l) (replicate_more n x)

pub one_empty : (xs ys : List (Vec ℕ Global)) (v : Vec ℕ Global) (r : ℕ) → lists_in xs ≡ replicate r [] → ys ≡ xs ++ v ∷ [] → v.items ≡ [] → lists_in ys ≡ replicate (r + 1) []
one_empty xs ys v r are added bare =
    let one : suc r ≡ r + 1 = omega arith in
    ap lists_in added ∙ map_push (λ (v : Vec ℕ Global). v.items) xs v ∙ ap (λ l. lists_in xs ++ l ∷ []) bare ∙ ap (λ l. l ++ [] ∷ []) are ∙ replicate_more r [] ∙ ap (λ n. replicate n []) one

pub lists_length : (xs : List (Vec ℕ Global)) → length (lists_in xs) ≡ length xs
lists_length [] = refl
lists_length (x ∷ xs) = ap suc (lists_length xs)

-- The lists of the first so many roles are cut to these counts.
pub record AreCut (counts : ℕ → ℕ) (start now : List (List ℕ)) (k : ℕ) : Type 0 where
  pub count : length now ≡ length start
  pub done : (r : ℕ) → r < k → stamps_at now r ≡ take (counts r) (stamps_at start r)
  pub rest : (r : ℕ) → k ≤ r → stamps_at now r ≡ stamps_at start r

pub none_cut : (counts : ℕ → ℕ) (lists : List (List ℕ)) → AreCut counts lists lists 0
none_cut counts lists = record { count = refl; done = λ r lt. absurd (omega (arith, lt)); rest = λ r le. refl }

pub one_cut : (counts : ℕ → ℕ) (start now more : List (List ℕ)) (k n : ℕ) → k < length start → AreCut counts start now k → n ≡ counts k → more ≡ cut_to now k n → AreCut counts start more (k + 1)
one_cut counts start now more k n low are is cut = subst (λ l. AreCut counts start l (k + 1)) (sym cut) (record {
  count = length-set now k (take n (stamps_at now k)) ∙ are.count;
  done = λ r lt. ⊎_elim
      (λ same. subst (λ q. stamps_at (cut_to now k n) q ≡ take (counts q) (stamps_at start q)) (sym same)
      (get_or-set_same now k (take n (stamps_at now k)) [] (let c = are.count in omega (arith, c, low)) ∙ ap₂ take is (are.rest k (omega arith))))
      (λ other. get_or-set_other now k r (take n (stamps_at now k)) [] other ∙ are.done r (below r k lt other))
      (cases_eq r k);
  rest = λ r le. get_or-set_other now k r (take n (stamps_at now k)) [] (λ same. absurd (omega (arith, le, same))) ∙ are.rest r (omega (arith, le));
})
  where
    below : (r k : ℕ) → r < k + 1 → (r ≡ k → ⊥) → r < k
    below r k lt other = ⊎_elim (λ less. less) (λ le. absurd (other (omega (arith, le, lt)))) (cases_lt r k)
