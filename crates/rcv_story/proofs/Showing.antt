-- Marks of places that are shown: of ranges, of what is near recoveries, and of short runs between marked ones.
use Rattle.std.proofs.Common.{◌≡◌, ℕ, zero, suc, ◌+◌, ◌-◌, ◌<◌, ◌≤◌, Bool, true, false, Option, Some, None, List, [], ◌∷◌, ◌++◌, length, take, replicate, refl, sym, ◌∙◌, ap, subst, ◌⊎◌, inl, inr, ⊎_elim, arith, length-append}
use Rattle.std.specs.Prelude.{◌↔◌, slice_get, slice_index_or, slice_set}
use Rattle.std.proofs.lemmas.Bool.{cases_eq, cases_lt, false≢true}
use Rattle.std.proofs.lemmas.List.{length-set, length-replicate}
use Rattle.std.proofs.lemmas.Option.{slice_get_within}
use Rattle.rcv_model.proofs.Lists.{some_same}
use Rattle.rcv_ledger.proofs.Lists.{get_left, get_end, take_left, take_whole}
use Rattle.rcv_story.specs.declared.story.Recovery.{Recovery}
use Rattle.rcv_story.specs.Marks.{IsMarked, AddsMarks, IsFromTo, IsBridged}
use Rattle.rcv_story.specs.Shown.{whole, ends, far, near, beside, IsAround, IsNear, IsToldOf, IsNearTold, IsPicked, ArePicked, IsBetween, IsShownAt, AreShown}
use Rattle.rcv_story.proofs.Marking.{set_here, set_other, filled_with}

pub adds_none : (P : ℕ → Type 0) (xs : List Bool) → ((p : ℕ) → P p → ⊥) → AddsMarks P xs xs
adds_none P xs none = record { size = refl; each = λ p. ((λ m. inl m), (λ e. ⊎_elim (λ m. m) (λ f. absurd (none p f.1)) e)) }

-- the same marks, of places within
pub adds_same : (P Q : ℕ → Type 0) (xs ys : List Bool) → ((p : ℕ) → p < length xs → P p → Q p) → ((p : ℕ) → p < length xs → Q p → P p) → AddsMarks P xs ys → AddsMarks Q xs ys
adds_same P Q xs ys to from a = record {
  size = a.size;
  each = λ p. (
    (λ m. ⊎_elim inl (λ f. inr (f.0, to p f.0 f.1)) ((a.each p).0 m)),
    (λ e. (a.each p).1 (⊎_elim inl (λ f. inr (f.0, from p f.0 f.1)) e)),
  );
}

pub adds_both : (P Q : ℕ → Type 0) (xs ys zs : List Bool) → AddsMarks P xs ys → AddsMarks Q ys zs → AddsMarks (λ p. P p ⊎ Q p) xs zs
adds_both P Q xs ys zs a b = record {
  size = b.size ∙ a.size;
  each = λ p. (
    (λ m. ⊎_elim
        (λ old. ⊎_elim inl (λ f. inr (f.0, inl f.1)) ((a.each p).0 old))
        (λ f. inr ((let s = a.size in let l = f.0 in omega (arith, s, l)), inr f.1))
        ((b.each p).0 m)),
    (λ e. (b.each p).1 (⊎_elim
        (λ old. inl ((a.each p).1 (inl old)))
        (λ f. ⊎_elim (λ i. inl ((a.each p).1 (inr (f.0, i)))) (λ j. inr ((let s = a.size in let l = f.0 in omega (arith, s, l)), j)) f.1)
        e)),
  );
}

pub adds_one : (xs : List Bool) (x : ℕ) → x < length xs → AddsMarks (λ p. p ≡ x) xs (slice_set xs x true)
adds_one xs x lt = record {
  size = length-set xs x true;
  each = λ p. ⊎_elim
      (λ (same : p ≡ x). (
        (λ m. inr (omega (arith, lt, same), same)),
        (λ e. subst (λ (n : ℕ). slice_get (slice_set xs x true) n ≡ Some true) (sym same) (set_here xs x true lt)),
      ))
      (λ (ne : p ≡ x → ⊥). (
        (λ m. inl (sym (set_other xs x p true ne) ∙ m)),
        (λ e. set_other xs x p true ne ∙ ⊎_elim (λ m. m) (λ f. absurd (ne f.1)) e),
      ))
      (cases_eq p x);
}

-- one place more of a range
pub range_next : (from k : ℕ) (xs ys : List Bool) → from ≤ k → k < length ys → AddsMarks (IsFromTo from k) xs ys → AddsMarks (IsFromTo from (k + 1)) xs (slice_set ys k true)
range_next from k xs ys up lt a = adds_same (λ p. IsFromTo from k p ⊎ (p ≡ k)) (IsFromTo from (k + 1)) xs (slice_set ys k true)
    (λ p low e. ⊎_elim
    (λ f. record { low = f.low; high = (let h = f.high in omega (arith, h)) })
    (λ s. record { low = omega (arith, up, s); high = omega (arith, s) }) e)
    (λ p low f. ⊎_elim
    (λ l. inl (record { low = f.low; high = l }))
    (λ le. inr (let h = f.high in omega (arith, h, le)))
    (cases_lt p k))
    (adds_both (IsFromTo from k) (λ p. p ≡ k) xs ys (slice_set ys k true) a (adds_one ys k lt))

pub range_start : (from k : ℕ) (xs : List Bool) → k ≤ from → AddsMarks (IsFromTo from k) xs xs
range_start from k xs le = adds_none (IsFromTo from k) xs (λ p f. let a = f.low in let b = f.high in omega (arith, a, b, le))

-- the range ends at its end, or at the end of the marks
pub range_end : (from k end : ℕ) (xs ys : List Bool) → (k ≤ end) ⊎ (k ≤ from) → (end ≤ k) ⊎ (length xs ≤ k) → AddsMarks (IsFromTo from k) xs ys → AddsMarks (IsFromTo from end) xs ys
range_end from k end xs ys short over a = adds_same (IsFromTo from k) (IsFromTo from end) xs ys
    (λ p lt f. record { low = f.low; high = (let h = f.high in let l = f.low in ⊎_elim (λ s. omega (arith, h, s)) (λ s. absurd (omega (arith, h, l, s))) short) })
    (λ p lt f. record { low = f.low; high = (let h = f.high in ⊎_elim (λ o. omega (arith, h, o)) (λ o. omega (arith, lt, o)) over) })
    a

-- a place with so many before and after it
pub around : (x before after from end : ℕ) (xs ys : List Bool) → from ≡ x - before → end ≡ x + after + 1 → AddsMarks (IsFromTo from end) xs ys → AddsMarks (IsAround x before after) xs ys
around x before after from end xs ys first last a = adds_same (IsFromTo from end) (IsAround x before after) xs ys
    (λ p lt f. record { low = (let l = f.low in omega (arith, l, first)); high = (let h = f.high in omega (arith, h, last)) })
    (λ p lt f. record { low = (let l = f.low in omega (arith, l, first)); high = (let h = f.high in omega (arith, h, last)) })
    a

-- what is near a recovery, by the first so many roles
abbrev pub IsNearFirst : Recovery → ℕ → ℕ → Type 0
IsNearFirst x n p = (r : ℕ) × (r < n) × (f : ℕ) × (slice_index_or x.firsts r None ≡ Some f) × IsAround f beside beside p

abbrev pub IsNearCrash : Recovery → ℕ → Type 0
IsNearCrash x p = (c : ℕ) × (x.crash ≡ Some c) × IsAround c far near p

abbrev pub IsNearBy : Recovery → ℕ → ℕ → Type 0
IsNearBy x n p = (IsAround x.place near far p ⊎ IsNearCrash x p) ⊎ IsNearFirst x n p

pub near_start : (x : Recovery) (xs ys : List Bool) → AddsMarks (λ p. IsAround x.place near far p ⊎ IsNearCrash x p) xs ys → AddsMarks (IsNearBy x 0) xs ys
near_start x xs ys a = adds_same (λ p. IsAround x.place near far p ⊎ IsNearCrash x p) (IsNearBy x 0) xs ys
    (λ p lt f. inl f)
    (λ p lt f. ⊎_elim (λ g. g) (λ g. absurd (let l = g.1 in omega (arith, l))) f)
    a

pub crash_near : (x : Recovery) (c : ℕ) (xs ys zs : List Bool) → x.crash ≡ Some c → AddsMarks (IsAround x.place near far) xs ys → AddsMarks (IsAround c far near) ys zs → AddsMarks (λ p. IsAround x.place near far p ⊎ IsNearCrash x p) xs zs
crash_near x c xs ys zs is a b = adds_same (λ p. IsAround x.place near far p ⊎ IsAround c far near p) (λ p. IsAround x.place near far p ⊎ IsNearCrash x p) xs zs
    (λ p lt f. ⊎_elim inl (λ g. inr (c, is, g)) f)
    (λ p lt f. ⊎_elim inl (λ g. inr (subst (λ (d : ℕ). IsAround d far near p) (some_same (sym g.1 ∙ is)) g.2)) f)
    (adds_both (IsAround x.place near far) (IsAround c far near) xs ys zs a b)

pub no_crash_near : (x : Recovery) (xs ys : List Bool) → x.crash ≡ None → AddsMarks (IsAround x.place near far) xs ys → AddsMarks (λ p. IsAround x.place near far p ⊎ IsNearCrash x p) xs ys
no_crash_near x xs ys none a = adds_same (IsAround x.place near far) (λ p. IsAround x.place near far p ⊎ IsNearCrash x p) xs ys
    (λ p lt f. inl f)
    (λ p lt f. ⊎_elim (λ g. g) (λ g. absurd (let e : (let o : Option ℕ = None in o) ≡ Some g.0 = sym none ∙ g.1 in cc)) f)
    a

pub near_more : (x : Recovery) (n f : ℕ) (xs ys zs : List Bool) → slice_index_or x.firsts n None ≡ Some f → AddsMarks (IsNearBy x n) xs ys → AddsMarks (IsAround f beside beside) ys zs → AddsMarks (IsNearBy x (n + 1)) xs zs
near_more x n f xs ys zs at a b = adds_same (λ p. IsNearBy x n p ⊎ IsAround f beside beside p) (IsNearBy x (n + 1)) xs zs
    (λ p lt e. ⊎_elim (λ g. ⊎_elim inl (λ h. inr (h.0, (let l = h.1 in omega (arith, l)), h.2, h.3, h.4)) g) (λ g. inr (n, omega arith, f, at, g)) e)
    (λ p lt e. ⊎_elim (λ g. inl (inl g)) (λ h. ⊎_elim
    (λ low. inl (inr (h.0, low, h.2, h.3, h.4)))
    (λ le. let same : h.0 ≡ n = (let l = h.1 in omega (arith, l, le)) in
    let one : h.2 ≡ f = some_same (sym (subst (λ (m : ℕ). slice_index_or x.firsts m None ≡ Some h.2) same h.3) ∙ at) in
    inr (subst (λ (d : ℕ). IsAround d beside beside p) one h.4))
    (cases_lt h.0 n)) e)
    (adds_both (IsNearBy x n) (IsAround f beside beside) xs ys zs a b)

pub near_other : (x : Recovery) (n : ℕ) (xs ys : List Bool) → slice_index_or x.firsts n None ≡ None → AddsMarks (IsNearBy x n) xs ys → AddsMarks (IsNearBy x (n + 1)) xs ys
near_other x n xs ys at a = adds_same (IsNearBy x n) (IsNearBy x (n + 1)) xs ys
    (λ p lt e. ⊎_elim inl (λ h. inr (h.0, (let l = h.1 in omega (arith, l)), h.2, h.3, h.4)) e)
    (λ p lt e. ⊎_elim inl (λ h. ⊎_elim
    (λ low. inr (h.0, low, h.2, h.3, h.4))
    (λ le. absurd (let same : h.0 ≡ n = (let l = h.1 in omega (arith, l, le)) in
    let none : (let o : Option ℕ = None in o) ≡ Some h.2 = sym at ∙ subst (λ (m : ℕ). slice_index_or x.firsts m None ≡ Some h.2) same h.3 in cc))
    (cases_lt h.0 n)) e)
    a

pub near_end : (x : Recovery) (n : ℕ) (xs ys : List Bool) → 8 ≡ n → AddsMarks (IsNearBy x n) xs ys → AddsMarks (IsNear x) xs ys
near_end x n xs ys over a = adds_same (IsNearBy x n) (IsNear x) xs ys
    (λ p lt e. ⊎_elim (λ g. ⊎_elim inl (λ h. inr (inl h)) g) (λ h. inr (inr (h.0, (let l = h.1 in omega (arith, l, over)), h.2, h.3, h.4))) e)
    (λ p lt e. ⊎_elim (λ g. inl (inl g)) (λ g. ⊎_elim (λ h. inl (inr h)) (λ h. inr (h.0, (let l = h.1 in omega (arith, l, over)), h.2, h.3, h.4)) g) e)
    a

-- what is near the first recoveries
pub record IsNearTill (xs : List Recovery) (n p : ℕ) : Type 0 where
  pub told : IsNearTold xs p
  pub before : told.number < n

abbrev pub IsPickedTill : ℕ → List Recovery → ℕ → ℕ → Type 0
IsPickedTill count xs n p = ((p < ends) ⊎ (count ≤ p + ends)) ⊎ IsNearTill xs n p

pub picked_start : (count from : ℕ) (xs : List Recovery) (ws us vs : List Bool) → from ≡ count - ends → length ws ≡ count → AddsMarks (IsFromTo 0 ends) ws us → AddsMarks (IsFromTo from count) us vs → AddsMarks (IsPickedTill count xs 0) ws vs
picked_start count from xs ws us vs first size a b = adds_same (λ p. IsFromTo 0 ends p ⊎ IsFromTo from count p) (IsPickedTill count xs 0) ws vs
    (λ p lt e. inl (⊎_elim (λ f. inl f.high) (λ f. inr (let l = f.low in omega (arith, l, first))) e))
    (λ p lt e. ⊎_elim
    (λ g. ⊎_elim (λ h. inl (record { low = omega arith; high = h })) (λ h. inr (record { low = omega (arith, h, first); high = omega (arith, lt, size) })) g)
    (λ t. absurd (let l = t.before in omega (arith, l))) e)
    (adds_both (IsFromTo 0 ends) (IsFromTo from count) ws us vs a b)

pub picked_more : (count n : ℕ) (xs : List Recovery) (x : Recovery) (ws us vs : List Bool) → slice_get xs n ≡ Some x → IsToldOf (length xs) n → AddsMarks (IsPickedTill count xs n) ws us → AddsMarks (IsNear x) us vs → AddsMarks (IsPickedTill count xs (n + 1)) ws vs
picked_more count n xs x ws us vs at told a b = adds_same (λ p. IsPickedTill count xs n p ⊎ IsNear x p) (IsPickedTill count xs (n + 1)) ws vs
    (λ p lt e. ⊎_elim
    (λ g. ⊎_elim inl (λ h. inr (record { told = h.told; before = (let l = h.before in omega (arith, l)) })) g)
    (λ g. inr (record { told = record { number = n; recovery = x; there = at; told = told; is_near = g }; before = omega arith })) e)
    (λ p lt e. ⊎_elim (λ g. inl (inl g)) (λ t. ⊎_elim
    (λ low. inl (inr (record { told = t.told; before = low })))
    (λ le. let same : t.told.number ≡ n = (let l = t.before in omega (arith, l, le)) in
    inr (subst (λ (y : Recovery). IsNear y p) (some_same (sym (subst (λ (m : ℕ). slice_get xs m ≡ Some t.told.recovery) same t.told.there) ∙ at)) t.told.is_near))
    (cases_lt t.told.number n)) e)
    (adds_both (IsPickedTill count xs n) (IsNear x) ws us vs a b)

pub picked_other : (count n : ℕ) (xs : List Recovery) (ws us : List Bool) → (IsToldOf (length xs) n → ⊥) → AddsMarks (IsPickedTill count xs n) ws us → AddsMarks (IsPickedTill count xs (n + 1)) ws us
picked_other count n xs ws us other a = adds_same (IsPickedTill count xs n) (IsPickedTill count xs (n + 1)) ws us
    (λ p lt e. ⊎_elim inl (λ h. inr (record { told = h.told; before = (let l = h.before in omega (arith, l)) })) e)
    (λ p lt e. ⊎_elim inl (λ t. ⊎_elim
    (λ low. inr (record { told = t.told; before = low }))
    (λ le. absurd (let same : t.told.number ≡ n = (let l = t.before in omega (arith, l, le)) in other (subst (IsToldOf (length xs)) same t.told.told)))
    (cases_lt t.told.number n)) e)
    a

pub picked_end : (count n : ℕ) (xs : List Recovery) (ws us : List Bool) → count ≡ length ws → length xs ≤ n → AddsMarks (IsPickedTill count xs n) ws us → AddsMarks (IsPicked count xs) ws us
picked_end count n xs ws us size over a = adds_same (IsPickedTill count xs n) (IsPicked count xs) ws us
    (λ p lt e. (omega (arith, lt, size), ⊎_elim (λ g. ⊎_elim inl (λ h. inr (inl h)) g) (λ t. inr (inr t.told)) e))
    (λ p lt e. ⊎_elim (λ g. inl (inl g)) (λ g. ⊎_elim (λ h. inl (inr h)) (λ t. inr (record { told = t; before = (let w = slice_get_within xs t.number t.recovery t.there in omega (arith, w, over)) })) g) e.1)
    a

-- where nothing was marked before
pub all_picked : (count : ℕ) (xs : List Recovery) (ws us : List Bool) → ws ≡ replicate count false → AddsMarks (IsPicked count xs) ws us → ArePicked count xs us
all_picked count xs ws us bare a = record {
  size = a.size ∙ size;
  each = λ p. (
    (λ m. ⊎_elim
        (λ old. absurd (false≢true (filled_with count p false true (subst (λ (l : List Bool). slice_get l p ≡ Some true) bare old))))
        (λ f. f.1)
        ((a.each p).0 m)),
    (λ e. (a.each p).1 (inr ((let l = e.0 in let s = size in omega (arith, l, s)), e))),
  );
}
  where
    size : length ws ≡ count
    size = ap length bare ∙ length-replicate count false

-- a slice that is written back whole
pub written : (xs ys : List Bool) (n : ℕ) → n ≡ length xs → take n (xs ++ ys) ≡ xs
written xs ys n all = ap (λ (m : ℕ). take m (xs ++ ys)) all ∙ take_left xs ys (length xs) (omega arith) ∙ take_whole xs

-- of marked ones: what is between
pub bridged_is : (count : ℕ) (xs : List Recovery) (picked : List Bool) (p : ℕ) → ArePicked count xs picked → (IsBridged picked p → IsBetween count xs p) × (IsBetween count xs p → IsBridged picked p)
bridged_is count xs picked p are = (
  (λ b. record { lower = b.lower; upper = b.upper; lower_picked = (are.each b.lower).0 b.lower_marked; upper_picked = (are.each b.upper).0 b.upper_marked; above = b.above; below = b.below; few = b.few }),
  (λ b. record { lower = b.lower; upper = b.upper; lower_marked = (are.each b.lower).1 b.lower_picked; upper_marked = (are.each b.upper).1 b.upper_picked; above = b.above; below = b.below; few = b.few }),
)

-- the marks so far
pub record AreShownTo (count : ℕ) (xs : List Recovery) (k : ℕ) (shown : List Bool) : Type 0 where
  pub size : length shown ≡ k
  pub each : (p : ℕ) → p < k → (slice_get shown p ≡ Some true) ↔ IsShownAt count xs p

pub shown_start : (count : ℕ) (xs : List Recovery) (shown : List Bool) → shown ≡ [] → AreShownTo count xs 0 shown
shown_start count xs shown bare = record { size = ap length bare; each = λ p lt. absurd (omega (arith, lt)) }

pub shown_next : (count : ℕ) (xs : List Recovery) (picked : List Bool) (k : ℕ) (shown : List Bool) (b : Bool) → whole < count → ArePicked count xs picked → (b ≡ true) ↔ (IsMarked picked k ⊎ IsBridged picked k) → AreShownTo count xs k shown → AreShownTo count xs (k + 1) (shown ++ b ∷ [])
shown_next count xs picked k shown b long are says has = record {
  size = (let a = length-append shown (b ∷ []) in let s = has.size in omega (arith, a, s));
  each = λ p lt. ⊎_elim
      (λ low. let left = get_left shown (b ∷ []) p (let s = has.size in omega (arith, s, low)) in (
        (λ at. (has.each p low).0 (sym left ∙ at)),
        (λ is. left ∙ (has.each p low).1 is),
      ))
      (λ le. let same : p ≡ k = omega (arith, le, lt) in
      let at : slice_get (shown ++ b ∷ []) k ≡ Some b = subst (λ (m : ℕ). slice_get (shown ++ b ∷ []) m ≡ Some b) has.size (get_end shown b) in
      subst (λ (m : ℕ). (slice_get (shown ++ b ∷ []) m ≡ Some true) ↔ IsShownAt count xs m) (sym same) (
        (λ there. ⊎_elim (λ m. inr (inl ((are.each k).0 m))) (λ m. inr (inr ((bridged_is count xs picked k are).0 m))) (says.0 (some_same (sym at ∙ there)))),
        (λ is. at ∙ ap Some (says.1 (⊎_elim (λ short. absurd (omega (arith, short, long))) (λ g. ⊎_elim (λ m. inl ((are.each k).1 m)) (λ m. inr ((bridged_is count xs picked k are).1 m)) g) is))),
      ))
      (cases_lt p k);
}

pub shown_end : (count k : ℕ) (xs : List Recovery) (shown : List Bool) → k ≡ count → AreShownTo count xs k shown → AreShown count xs shown
shown_end count k xs shown over has = subst (λ (n : ℕ). AreShown n xs shown) over (subst (λ (n : ℕ). AreShown n xs shown) (sym over) (record { size = has.size ∙ over; each = λ p lt. has.each p (omega (arith, lt, over)) }))

pub shown_whole : (count : ℕ) (xs : List Recovery) (shown : List Bool) → count ≤ whole → shown ≡ replicate count true → AreShown count xs shown
shown_whole count xs shown short all = record {
  size = ap length all ∙ length-replicate count true;
  each = λ p lt. ((λ at. inl short), (λ is. subst (λ (l : List Bool). slice_get l p ≡ Some true) (sym all) (filled_at count p lt)));
}
  where
    filled_at : (n p : ℕ) → p < n → slice_get (replicate n true) p ≡ Some true
    filled_at zero p lt = absurd (omega (arith, lt))
    filled_at (suc n) zero lt = refl
    filled_at (suc n) (suc p) lt = filled_at n p (omega (arith, lt))
