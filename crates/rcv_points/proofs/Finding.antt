-- What was found is a list of places, each once, and there is room for all of them.
use Rattle.std.proofs.Common.{◌≡◌, ℕ, ◌+◌, ◌<◌, ◌≤◌, Bool, true, false, not, cond, List, [], ◌∷◌, ◌++◌, length, replicate, take, set, get_or, refl, sym, ◌∙◌, ap, subst, ◌⊎◌, inl, inr, ⊎_elim, arith}
use Rattle.std.specs.List.{count_by}
use Rattle.std.proofs.lemmas.Bool.{cases_Bool, cases_eq, cases_lt}
use Rattle.std.proofs.lemmas.List.{length-set, length-replicate, get_or-replicate, get_or_past, get_or-set_same, get_or-set_other, take_more_set}
use Rattle.std.proofs.lemmas.List.Sums.{sum_by-set}
use Rattle.std.proofs.lemmas.List.Folds.{sum_by-replicate}
use Rattle.rcv_model.specs.Net.{IsIn}
use Rattle.rcv_points.specs.Found.{AreOnce, Adds, Is}

-- what two lists hold together
pub in_left : (x : ℕ) (xs ys : List ℕ) → IsIn x xs → IsIn x (xs ++ ys)
in_left x [] ys i = absurd i
in_left x (y ∷ xs) ys (inl e) = inl e
in_left x (y ∷ xs) ys (inr i) = inr (in_left x xs ys i)

pub in_right : (x : ℕ) (xs ys : List ℕ) → IsIn x ys → IsIn x (xs ++ ys)
in_right x [] ys i = i
in_right x (y ∷ xs) ys i = inr (in_right x xs ys i)

pub in_either : (x : ℕ) (xs ys : List ℕ) → IsIn x (xs ++ ys) → IsIn x xs ⊎ IsIn x ys
in_either x [] ys i = inr i
in_either x (y ∷ xs) ys (inl e) = inl (inl e)
in_either x (y ∷ xs) ys (inr i) = ⊎_elim (λ j. inl (inr j)) (λ j. inr j) (in_either x xs ys i)

pub no_flag_is_up : false ≡ true → ⊥
no_flag_is_up e = cc

pub no_flag : (n j : ℕ) → get_or (replicate n false) j false ≡ false
no_flag n j = ⊎_elim (λ lt. get_or-replicate n j false false lt) (λ le. get_or_past (replicate n false) j false (let e = length-replicate n false in omega (arith, e))) (cases_lt j n)

abbrev left_over : Bool → ℕ
left_over b = cond (not b) 1 0

pub nothing : AreOnce (replicate 257 false) (replicate 257 0) 0
nothing = record {
  flags_all = length-replicate 257 false;
  items_all = length-replicate {A = ℕ} 257 0;
  flagged = λ j i. absurd i;
  found = λ j e. let f = no_flag 257 j in absurd (cc);
  room = let e = sum_by-replicate left_over 257 false in omega (arith, e);
}

unflagged : (flags : List Bool) (items : List ℕ) (count p : ℕ) → AreOnce flags items count → (IsIn p (take count items) → ⊥) → get_or flags p false ≡ false
unflagged flags items count p once n = ⊎_elim (λ t. absurd (n (once.found p t))) (λ f. f) (cases_Bool (get_or flags p false))

fewer : (flags : List Bool) (p : ℕ) → p < length flags → get_or flags p false ≡ false → count_by not (set flags p true) + 1 ≡ count_by not flags
fewer flags p lt off =
    let e = sum_by-set left_over flags p true false lt in
    let f : left_over (get_or flags p false) ≡ 1 = ap left_over off in
    omega (arith, e, f)

-- where a place isn't found yet there is room for it
pub has_room : (flags : List Bool) (items : List ℕ) (count p : ℕ) → AreOnce flags items count → p ≤ 256 → (IsIn p (take count items) → ⊥) → count < 257
has_room flags items count p once le n =
    let all = once.flags_all in
    let room = once.room in
    let e = fewer flags p (omega (arith, all)) (unflagged flags items count p once n) in
    omega (arith, e, room)

-- the list with one more place
pub one_more : (items : List ℕ) (count p : ℕ) → length items ≡ 257 → count < 257 → take (count + 1) (set items count p) ≡ take count items ++ p ∷ []
one_more items count p all lt = take_more_set items count p (omega (arith, all))

pub added : (flags : List Bool) (items : List ℕ) (count p : ℕ) → AreOnce flags items count → p ≤ 256 → (IsIn p (take count items) → ⊥) → AreOnce (set flags p true) (set items count p) (count + 1)
added flags items count p once le n = record {
  flags_all = length-set flags p true ∙ once.flags_all;
  items_all = length-set items count p ∙ once.items_all;
  flagged = λ j i. to_flag j (⊎_elim (λ m. inl m) (λ m. inr (⊎_elim (λ e. e) (λ none. absurd none) m)) (in_either j (take count items) (p ∷ []) (subst (IsIn j) more i)));
  found = λ j e. subst (IsIn j) (sym more) (from_flag j e (cases_eq j p));
  room = let room = once.room in let e = fewer flags p lt (unflagged flags items count p once n) in omega (arith, e, room);
}
  where
    lt : p < length flags
    lt = let all = once.flags_all in omega (arith, all)

    more : take (count + 1) (set items count p) ≡ take count items ++ p ∷ []
    more = one_more items count p once.items_all (has_room flags items count p once le n)

    to_flag : (j : ℕ) → IsIn j (take count items) ⊎ (j ≡ p) → get_or (set flags p true) j false ≡ true
    to_flag j (inl i) = ⊎_elim (λ e. absurd (n (subst (λ x. IsIn x (take count items)) e i))) (λ m. get_or-set_other flags p j true false m ∙ once.flagged j i) (cases_eq j p)
    to_flag j (inr e) = ap (λ x. get_or (set flags p true) x false) e ∙ get_or-set_same flags p true false lt

    from_flag : (j : ℕ) → get_or (set flags p true) j false ≡ true → (j ≡ p) ⊎ (j ≡ p → ⊥) → IsIn j (take count items ++ p ∷ [])
    from_flag j e (inl same) = in_right j (take count items) (p ∷ []) (inl same)
    from_flag j e (inr m) = in_left j (take count items) (p ∷ []) (once.found j (sym (get_or-set_other flags p j true false m) ∙ e))

-- one more place, which stands last
pub adds_one : (old : List ℕ) (p : ℕ) → Adds (Is p) old (old ++ p ∷ [])
adds_one old p = record {
  kept = (p ∷ [], refl);
  all = λ j e. in_right j old (p ∷ []) (inl e);
  only = λ j i. ⊎_elim (λ m. inl m) (λ m. inr (⊎_elim (λ e. e) (λ none. absurd none) m)) (in_either j old (p ∷ []) i);
}
