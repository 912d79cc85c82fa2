-- The stacks that the code holds, and marks that are set one after another.
use Rattle.std.proofs.Common.{◌≡◌, ℕ, zero, suc, ◌+◌, ◌-◌, ◌<◌, ◌≤◌, Option, Some, List, [], ◌∷◌, ◌++◌, length, take, drop, replicate, refl, sym, ◌∙◌, ap, subst, ◌⊎◌, inl, inr, ⊎_elim, arith}
use Rattle.std.specs.Prelude.{slice_get, slice_index_or, slice_set}
use Rattle.std.specs.declared.alloc.Global.{Global}
use Rattle.std.specs.declared.vec.Vec.{Vec}
use Rattle.std.proofs.lemmas.Bool.{cases_eq, cases_lt}
use Rattle.std.proofs.lemmas.List.{get_or-map, map-set, map_push, length-set, length-drop, get_or-set_same, get_or-set_other}
use Rattle.rcv_tree.specs.declared.role.RoleSet.{RoleSet}
use Rattle.rcv_model.specs.Net.{IsIn}
use Rattle.rcv_model.proofs.Lists.{some_same}
use Rattle.rcv_ledger.proofs.Lists.{take_whole}
use Rattle.rcv_tree.specs.Lists.{lists_in}
use Rattle.rcv_story.specs.Stacks.{stack_at, with_place, left_count, AreMarked, IsTaken}
use Rattle.rcv_story.proofs.Places.{take_more, in_take, in_more, in_left, in_last}

-- one item is set
pub set_here : {A : Type 0} (xs : List A) (i : ℕ) (v : A) → i < length xs → slice_get (slice_set xs i v) i ≡ Some v
set_here [] i v lt = absurd (omega (arith, lt))
set_here (x ∷ xs) zero v lt = refl
set_here (x ∷ xs) (suc i) v lt = set_here xs i v (omega (arith, lt))

pub set_other : {A : Type 0} (xs : List A) (i j : ℕ) (v : A) → (j ≡ i → ⊥) → slice_get (slice_set xs i v) j ≡ slice_get xs j
set_other [] i j v ne = refl
set_other (x ∷ xs) zero zero v ne = absurd (ne refl)
set_other (x ∷ xs) zero (suc j) v ne = refl
set_other (x ∷ xs) (suc i) zero v ne = refl
set_other (x ∷ xs) (suc i) (suc j) v ne = set_other xs i j v (λ e. ne (ap suc e))

pub filled_with : {A : Type 0} (n t : ℕ) (x y : A) → slice_get (replicate n x) t ≡ Some y → x ≡ y
filled_with zero t x y at = absurd (cc)
filled_with (suc n) zero x y at = some_same at
filled_with (suc n) (suc t) x y at = filled_with n t x y at

replicate_suc : {A : Type 0} (n : ℕ) (x : A) → replicate n x ++ x ∷ [] ≡ replicate (suc n) x
replicate_suc zero x = refl
replicate_suc (suc n) x = ap (λ l. x ∷ l) (replicate_suc n x)

pub one_filled : {A : Type 0} (n : ℕ) (x : A) → replicate n x ++ x ∷ [] ≡ replicate (n + 1) x
one_filled n x = let one : suc n ≡ n + 1 = omega arith in replicate_suc n x ∙ ap (λ (m : ℕ). replicate m x) one

-- the lists that the code holds
module _ (xs : List (Vec ℕ Global)) (i : ℕ) (v w : Vec ℕ Global) (lt : i < length xs) (is : w ≡ slice_index_or xs i w) where
  pub own_list : w.items ≡ stack_at (lists_in xs) i
  own_list = ap (λ (v : Vec ℕ Global). v.items) is ∙ sym (get_or-map (λ (v : Vec ℕ Global). v.items) xs i w [] lt)

  pub list_more : (x : ℕ) → v.items ≡ w.items ++ x ∷ [] → lists_in (slice_set xs i v) ≡ with_place (lists_in xs) i x
  list_more x e = map-set (λ (v : Vec ℕ Global). v.items) xs i v ∙ ap (slice_set (lists_in xs) i) (e ∙ ap (λ l. l ++ x ∷ []) own_list)

  pub list_cut : (n : ℕ) → v.items ≡ take n w.items → lists_in (slice_set xs i v) ≡ slice_set (lists_in xs) i (take n (stack_at (lists_in xs) i))
  list_cut n e = map-set (λ (v : Vec ℕ Global). v.items) xs i v ∙ ap (slice_set (lists_in xs) i) (e ∙ ap (take n) own_list)

pub one_empty : (xs ys : List (Vec ℕ Global)) (v : Vec ℕ Global) (r : ℕ) → lists_in xs ≡ replicate r [] → ys ≡ xs ++ v ∷ [] → v.items ≡ [] → lists_in ys ≡ replicate (r + 1) []
one_empty xs ys v r are added bare =
    ap lists_in added ∙ map_push (λ (v : Vec ℕ Global). v.items) xs v ∙ ap (λ l. lists_in xs ++ l ∷ []) bare ∙ ap (λ l. l ++ [] ∷ []) are ∙ one_filled r []

pub lists_length : (xs : List (Vec ℕ Global)) → length (lists_in xs) ≡ length xs
lists_length [] = refl
lists_length (x ∷ xs) = ap suc (lists_length xs)

-- what a Recover leaves of a role's stack
abbrev pub cut_of : RoleSet → List ℕ → List (List ℕ) → ℕ → List ℕ
cut_of concerned keeps old r = take (left_count concerned keeps r (length (stack_at old r))) (stack_at old r)

module _ (concerned : RoleSet) (keeps : List ℕ) (lists old : List (List ℕ)) (role n : ℕ) (eight : length lists ≡ 8) (low : role < 8) (others : (r : ℕ) → role ≤ r → stack_at lists r ≡ stack_at old r) (count : n ≡ left_count concerned keeps role (length (stack_at lists role))) where
  pub cut_here : ((r : ℕ) → r < role → stack_at lists r ≡ cut_of concerned keeps old r) → (r : ℕ) → r < role + 1 → stack_at (slice_set lists role (take n (stack_at lists role))) r ≡ cut_of concerned keeps old r
  cut_here done r lt = ⊎_elim
      (λ (same : r ≡ role). subst (λ (m : ℕ). stack_at (slice_set lists role (take n (stack_at lists role))) m ≡ cut_of concerned keeps old m) (sym same)
      (get_or-set_same lists role (take n (stack_at lists role)) [] (omega (arith, eight, low))
      ∙ ap (λ (m : ℕ). take m (stack_at lists role)) count
      ∙ ap (λ (l : List ℕ). take (left_count concerned keeps role (length l)) l) (others role (omega arith))))
      (λ (ne : r ≡ role → ⊥). get_or-set_other lists role r (take n (stack_at lists role)) [] ne ∙ done r (omega (arith, lt, ne)))
      (cases_eq r role)

  pub cut_others : (r : ℕ) → role + 1 ≤ r → stack_at (slice_set lists role (take n (stack_at lists role))) r ≡ stack_at old r
  cut_others r le = get_or-set_other lists role r (take n (stack_at lists role)) [] (λ e. omega (arith, e, le)) ∙ others r (omega (arith, le))

-- marks
pub marks_none : (P : ℕ → Type 0) (h : ℕ) (xs : List (Option ℕ)) → ((p : ℕ) → P p → ⊥) → AreMarked P h xs xs
marks_none P h xs none = record { size = refl; hit = λ p i. absurd (none p i); miss = λ p out. refl; either = λ p. inr refl }

pub marks_same : (P Q : ℕ → Type 0) (h : ℕ) (xs ys : List (Option ℕ)) → ((p : ℕ) → P p → Q p) → ((p : ℕ) → Q p → P p) → AreMarked P h xs ys → AreMarked Q h xs ys
marks_same P Q h xs ys to from m = record {
  size = m.size;
  hit = λ p i. m.hit p (from p i);
  miss = λ p out. m.miss p (λ i. out (to p i));
  either = λ p. ⊎_elim (λ i. inl (to p i)) inr (m.either p);
}

pub marks_both : (P Q : ℕ → Type 0) (h : ℕ) (xs ys zs : List (Option ℕ)) → AreMarked P h xs ys → AreMarked Q h ys zs → AreMarked (λ p. P p ⊎ Q p) h xs zs
marks_both P Q h xs ys zs m n = record {
  size = n.size ∙ m.size;
  hit = λ p i. ⊎_elim (λ a. ⊎_elim (λ b. n.hit p b) (λ same. same ∙ m.hit p a) (n.either p)) (λ b. n.hit p b) i;
  miss = λ p out. n.miss p (λ b. out (inr b)) ∙ m.miss p (λ a. out (inl a));
  either = λ p. ⊎_elim (λ b. inl (inr b)) (λ same. ⊎_elim (λ a. inl (inl a)) (λ more. inr (same ∙ more)) (m.either p)) (n.either p);
}

marks_one : (h x : ℕ) (xs : List (Option ℕ)) → x < length xs → AreMarked (λ p. p ≡ x) h xs (slice_set xs x (Some h))
marks_one h x xs lt = record {
  size = length-set xs x (Some h);
  hit = λ p e. subst (λ (m : ℕ). slice_get (slice_set xs x (Some h)) m ≡ Some (Some h)) (sym e) (set_here xs x (Some h) lt);
  miss = λ p ne. set_other xs x p (Some h) ne;
  either = λ p. ⊎_elim inl (λ ne. inr (set_other xs x p (Some h) ne)) (cases_eq p x);
}

get_at : (xs : List ℕ) (i d : ℕ) → i < length xs → slice_get xs i ≡ Some (slice_index_or xs i d)
get_at [] i d lt = absurd (omega (arith, lt))
get_at (x ∷ xs) zero d lt = refl
get_at (x ∷ xs) (suc i) d lt = get_at xs i d (omega (arith, lt))

pub in_index : (xs : List ℕ) (i d : ℕ) → i < length xs → IsIn (slice_index_or xs i d) xs
in_index [] i d lt = absurd (omega (arith, lt))
in_index (x ∷ xs) zero d lt = inl refl
in_index (x ∷ xs) (suc i) d lt = inr (in_index xs i d (omega (arith, lt)))

pub mark_next : (places : List ℕ) (i h : ℕ) (xs ys : List (Option ℕ)) → i < length places → slice_index_or places i 0 < length ys → AreMarked (λ p. IsIn p (take i places)) h xs ys → AreMarked (λ p. IsIn p (take (i + 1) places)) h xs (slice_set ys (slice_index_or places i 0) (Some h))
mark_next places i h xs ys lt low m = marks_same (λ p. IsIn p (take i places) ⊎ (p ≡ slice_index_or places i 0)) (λ p. IsIn p (take (i + 1) places)) h xs (slice_set ys (slice_index_or places i 0) (Some h))
    (λ p j. subst (IsIn p) (sym one) (⊎_elim (λ a. in_left p (take i places) (slice_index_or places i 0 ∷ []) a) (λ e. subst (λ (n : ℕ). IsIn n (take i places ++ slice_index_or places i 0 ∷ [])) (sym e) (in_last (take i places) (slice_index_or places i 0))) j))
    (λ p j. in_more p (slice_index_or places i 0) (take i places) (subst (IsIn p) one j))
    (marks_both (λ p. IsIn p (take i places)) (λ p. p ≡ slice_index_or places i 0) h xs ys (slice_set ys (slice_index_or places i 0) (Some h)) m (marks_one h (slice_index_or places i 0) ys low))
  where
    one : take (i + 1) places ≡ take i places ++ slice_index_or places i 0 ∷ []
    one = take_more places i (slice_index_or places i 0) (get_at places i 0 lt)

pub all_marked : (places : List ℕ) (i h : ℕ) (xs ys : List (Option ℕ)) → length places ≤ i → AreMarked (λ p. IsIn p (take i places)) h xs ys → AreMarked (λ p. IsIn p places) h xs ys
all_marked places i h xs ys over m = marks_same (λ p. IsIn p (take i places)) (λ p. IsIn p places) h xs ys (λ p j. in_take i p places j) (λ p j. subst (IsIn p) (sym (taken i places over)) j) m
  where
    taken : (i : ℕ) (places : List ℕ) → length places ≤ i → take i places ≡ places
    taken zero [] le = refl
    taken zero (x ∷ xs) le = absurd (omega (arith, le))
    taken (suc i) [] le = refl
    taken (suc i) (x ∷ xs) le = ap (λ l. x ∷ l) (taken i xs (omega (arith, le)))

-- the end of a list from one place on
pub end_of : (n : ℕ) (xs : List ℕ) → take (length xs - n) (drop n xs) ≡ drop n xs
end_of n xs = ap (λ (m : ℕ). take m (drop n xs)) (sym (length-drop n xs)) ∙ take_whole (drop n xs)

module _ (concerned : RoleSet) (keeps : List ℕ) (lists : List (List ℕ)) (role h : ℕ) (xs ys zs : List (Option ℕ)) where
  here : ℕ → Type 0
  here p = IsIn p (drop (left_count concerned keeps role (length (stack_at lists role))) (stack_at lists role))

  pub taken_next : AreMarked (IsTaken concerned keeps lists role) h xs ys → AreMarked (λ p. IsIn p (drop (left_count concerned keeps role (length (stack_at lists role))) (stack_at lists role))) h ys zs → AreMarked (IsTaken concerned keeps lists (role + 1)) h xs zs
  unfolding here
  taken_next m n = marks_same (λ p. IsTaken concerned keeps lists role p ⊎ here p) (IsTaken concerned keeps lists (role + 1)) h xs zs
      (λ p i. ⊎_elim (λ a. (a.0, (let b = a.1 in omega (arith, b)), a.2)) (λ b. (role, omega arith, b)) i)
      (λ p t. ⊎_elim (λ (low : t.0 < role). inl (t.0, low, t.2)) (λ (le : role ≤ t.0). let same : t.0 ≡ role = (let a = t.1 in omega (arith, a, le)) in inr (subst (λ (r : ℕ). IsIn p (drop (left_count concerned keeps r (length (stack_at lists r))) (stack_at lists r))) same t.2)) (cases_lt t.0 role))
      (marks_both (IsTaken concerned keeps lists role) here h xs ys zs m n)

pub none_taken : (concerned : RoleSet) (keeps : List ℕ) (lists : List (List ℕ)) (h : ℕ) (xs : List (Option ℕ)) → AreMarked (IsTaken concerned keeps lists 0) h xs xs
none_taken concerned keeps lists h xs = marks_none (IsTaken concerned keeps lists 0) h xs (λ p t. let a = t.1 in omega (arith, a))
