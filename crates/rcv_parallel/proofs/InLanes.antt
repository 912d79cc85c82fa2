-- Which points of one lane a way comes to, and whether one comes to the lane's end, found by computing.
use Rattle.std.proofs.Common.{◌≡◌, ℕ, zero, suc, Bool, true, false, cond, ◌||◌, ◌&&◌, not, List, [], ◌∷◌, ◌++◌, refl, sym, ◌∙◌, ap, subst, ◌⊎◌, inl, inr, ⊎_elim, arith}
use Rattle.std.specs.List.{filter}
use Rattle.std.proofs.lemmas.Bool.{cases_eq}
use Rattle.std.proofs.lemmas.Bool.Decides.{nat_tests}
use Rattle.rcv_tree.specs.Bits.{is_listed}
use Rattle.rcv_model.specs.Net.{Net, IsIn, IsLaneWalk, last_of}
use Rattle.rcv_model.specs.Next.{IsOf, HasNone}
use Rattle.rcv_model.proofs.Checked.{own_point, all_of, both_true, of_all, add_new, grown, reach, is_none}
use Rattle.rcv_model.proofs.Completing.{at_end, by_way}
use Rattle.rcv_model.proofs.NextLists.{of_filter}
use Rattle.rcv_model.proofs.Parted.{CanEndBy, LaneTo, IsFrom}
use Rattle.rcv_model.proofs.Parts.{last_more, none_join}
use Rattle.rcv_model.proofs.Scanning.{among, is_member}
use Rattle.rcv_model.proofs.Walks.{lane_join, lane_front, lane_back}

abbrev pub any_of : (ℕ → Bool) → List ℕ → Bool
any_of f [] = false
any_of f (x ∷ xs) = f x || any_of f xs

pub both : (a b : Bool) → a ≡ true → b ≡ true → (a && b) ≡ true
both true b e f = f
both false b e f = absurd (cc)

pub some_true : (f : ℕ → Bool) (xs : List ℕ) → any_of f xs ≡ true → (x : ℕ) × IsIn x xs × (f x ≡ true)
some_true f [] t = absurd (cc)
some_true f (x ∷ xs) t = go (f x) refl t (some_true f xs)
  where
    go : (b : Bool) → f x ≡ b → (b || any_of f xs) ≡ true → (any_of f xs ≡ true → (y : ℕ) × IsIn y xs × (f y ≡ true)) → (y : ℕ) × IsIn y (x ∷ xs) × (f y ≡ true)
    go true e t ih = (x, inl refl, e)
    go false e t ih = let a = ih t in (a.0, inr a.1, a.2)

pub any_true : (f : ℕ → Bool) (x : ℕ) (xs : List ℕ) → IsIn x xs → f x ≡ true → any_of f xs ≡ true
any_true f x [] i t = absurd i
any_true f x (y ∷ ys) (inl e) t = ap (λ b. b || any_of f ys) (ap f (sym e) ∙ t)
any_true f x (y ∷ ys) (inr i) t = go (f y) (any_true f x ys i t)
  where
    go : (b : Bool) → any_of f ys ≡ true → (b || any_of f ys) ≡ true
    go true e = refl
    go false e = e

pub own_is : (net : Net) (r p : ℕ) → own_point net r p ≡ true → IsOf net r p
own_is net r p t = ⊎_elim (λ e. inl e) (λ n. ⊎_elim (λ e. inr e) (λ m. absurd (grind (arith, nat_tests))) (cases_eq (net.receiver p) r)) (cases_eq (net.sender p) r)

pub is_own : (net : Net) (r p : ℕ) → IsOf net r p → own_point net r p ≡ true
is_own net r p (inl e) = grind (arith, nat_tests)
is_own net r p (inr e) = grind (arith, nat_tests)

-- what a way without r's points may come to first, and all that it comes to, where the lane offers these points
abbrev pub others : Net → ℕ → List ℕ → List ℕ
others net r ps = filter (λ x. not (own_point net r x)) ps

abbrev pub behind : Net → ℕ → List ℕ → List ℕ
behind net r ps = reach net r net.count (others net r ps)

-- those are all: none leads elsewhere
abbrev pub is_closed : Net → ℕ → List ℕ → Bool
is_closed net r ps =
    all_of (λ p. own_point net r p || is_listed (behind net r ps) p) ps
    && all_of (λ j. all_of (λ p. own_point net r p || is_listed (behind net r ps) p) (net.offers j)) (behind net r ps)

-- such a way leads to a point z, and one to the lane's end
abbrev pub leads_to : Net → ℕ → List ℕ → ℕ → Bool
leads_to net r ps z = is_listed ps z || any_of (λ j. is_listed (net.offers j) z) (behind net r ps)

abbrev pub can_end : Net → ℕ → List ℕ → Bool
can_end net r ps = is_none ps || any_of (λ j. is_none (net.offers j)) (behind net r ps)

no_items : (xs : List ℕ) → is_none xs ≡ true → xs ≡ []
no_items [] e = refl
no_items (x ∷ xs) e = absurd (cc)

of_new : (x : ℕ) (xs js : List ℕ) → IsIn x (add_new xs js) → IsIn x xs ⊎ IsIn x js
of_new x [] js i = inr i
of_new x (y ∷ ys) js i = ⊎_elim (λ j. inl (inr j)) (go (is_listed js y)) (of_new x ys (cond (is_listed js y) js (y ∷ js)) i)
  where
    go : (b : Bool) → IsIn x (cond b js (y ∷ js)) → IsIn x (y ∷ ys) ⊎ IsIn x js
    go true j = inr j
    go false (inl e) = inl (inl e)
    go false (inr j) = inr j

pub none_all : (net : Net) (r : ℕ) (w : List ℕ) → HasNone net r w → (y : ℕ) → IsIn y w → IsOf net r y → ⊥
none_all net r [] h y i o = absurd i
none_all net r (x ∷ w) h y (inl e) o = h.0 (subst (IsOf net r) e o)
none_all net r (x ∷ w) h y (inr i) o = none_all net r w h.1 y i o

all_none : (net : Net) (r : ℕ) (w : List ℕ) → ((y : ℕ) → IsIn y w → IsOf net r y → ⊥) → HasNone net r w
all_none net r [] n = tt
all_none net r (x ∷ w) n = (n x (inl refl), all_none net r w (λ y i. n y (inr i)))

module _ (net : Net) (r : ℕ) (ps : List ℕ) where
  -- a way from what the lane offers to the place j
  record CameTo (j : ℕ) : Type 0 where
    first : ℕ
    way : List ℕ
    begun : IsIn first ps
    walk : IsLaneWalk net first way
    none : HasNone net r (first ∷ way)
    last : last_of first way ≡ j

  came_on : (j p : ℕ) → CameTo j → IsIn p (net.offers j) → (IsOf net r p → ⊥) → CameTo p
  came_on j p c i n = record {
    first = c.first;
    way = c.way ++ p ∷ [];
    begun = c.begun;
    walk = lane_join net c.first c.way (p ∷ []) c.walk (subst (λ x. IsIn p (net.offers x)) (sym c.last) i, tt);
    none = none_join net r (c.first ∷ c.way) (p ∷ []) c.none (n, tt);
    last = last_more c.first p c.way;
  }

  -- a point that the tests let through isn't one of r's
  other : (p : ℕ) (xs : List ℕ) → IsIn p (others net r xs) → IsIn p xs × (IsOf net r p → ⊥)
  other p xs i = let f = of_filter (λ x. not (own_point net r x)) p xs i in (f.0, λ o. let t = is_own net r p o in let g = f.1 in grind (arith, nat_tests))

  came_grown : (ks js : List ℕ) → ((j : ℕ) → IsIn j ks → CameTo j) → ((j : ℕ) → IsIn j js → CameTo j) → (j : ℕ) → IsIn j (grown net r ks js) → CameTo j
  came_grown [] js all old j i = old j i
  came_grown (x ∷ ks) js all old j i = came_grown ks (add_new (others net r (net.offers x)) js) (λ y m. all y (inr m)) now j i
    where
      now : (y : ℕ) → IsIn y (add_new (others net r (net.offers x)) js) → CameTo y
      now y m = ⊎_elim (λ l. let f = other y (net.offers x) l in came_on x y (all x (inl refl)) f.0 f.1) (λ l. old y l) (of_new y (others net r (net.offers x)) js m)

  came_reach : (n : ℕ) (js : List ℕ) → ((j : ℕ) → IsIn j js → CameTo j) → (j : ℕ) → IsIn j (reach net r n js) → CameTo j
  came_reach zero js all j i = all j i
  came_reach (suc n) js all j i = came_reach n (grown net r js js) (came_grown js js all all) j i

  came : (j : ℕ) → IsIn j (behind net r ps) → CameTo j
  came j i = came_reach net.count (others net r ps) (λ x m. let f = other x ps m in record { first = x; way = []; begun = f.0; walk = tt; none = (f.1, tt); last = refl }) j i

  pub leads_yes : (z : ℕ) → leads_to net r ps z ≡ true → LaneTo net r ps z
  leads_yes z t = go (is_listed ps z) refl t
    where
      go : (b : Bool) → is_listed ps z ≡ b → (b || any_of (λ j. is_listed (net.offers j) z) (behind net r ps)) ≡ true → LaneTo net r ps z
      go true e t = record { way = []; walk = (is_member z ps e, tt); none = tt }
      go false e t =
          let a = some_true (λ j. is_listed (net.offers j) z) (behind net r ps) t in
          let c = came a.0 a.1 in
          record { way = c.first ∷ c.way; walk = (c.begun, lane_join net c.first c.way (z ∷ []) c.walk (subst (λ x. IsIn z (net.offers x)) (sym c.last) (is_member z (net.offers a.0) a.2), tt)); none = c.none }

  pub ends_yes : can_end net r ps ≡ true → CanEndBy net r ps
  ends_yes t = go (is_none ps) refl t
    where
      go : (b : Bool) → is_none ps ≡ b → (b || any_of (λ j. is_none (net.offers j)) (behind net r ps)) ≡ true → CanEndBy net r ps
      go true e t = at_end (no_items ps e)
      go false e t =
          let a = some_true (λ j. is_none (net.offers j)) (behind net r ps) t in
          let c = came a.0 a.1 in
          by_way c.first c.way c.begun c.walk (ap net.offers c.last ∙ no_items (net.offers a.0) a.2) (none_all net r (c.first ∷ c.way) c.none)

  module _ (ok : is_closed net r ps ≡ true) where
    halves : (all_of (λ p. own_point net r p || is_listed (behind net r ps) p) ps ≡ true) × (all_of (λ j. all_of (λ p. own_point net r p || is_listed (behind net r ps) p) (net.offers j)) (behind net r ps) ≡ true)
    halves = both_true (all_of (λ p. own_point net r p || is_listed (behind net r ps) p) ps) (all_of (λ j. all_of (λ p. own_point net r p || is_listed (behind net r ps) p) (net.offers j)) (behind net r ps)) ok

    is_behind : (p : ℕ) → (own_point net r p || is_listed (behind net r ps) p) ≡ true → (IsOf net r p → ⊥) → IsIn p (behind net r ps)
    is_behind p t n = is_member p (behind net r ps) (go (own_point net r p) refl t)
      where
        go : (b : Bool) → own_point net r p ≡ b → (b || is_listed (behind net r ps) p) ≡ true → is_listed (behind net r ps) p ≡ true
        go true e t = absurd (n (own_is net r p e))
        go false e t = t

    along : (j : ℕ) (w : List ℕ) → IsIn j (behind net r ps) → IsLaneWalk net j w → HasNone net r w → IsIn (last_of j w) (behind net r ps)
    along j [] i walk none = i
    along j (p ∷ w) i walk none =
        let t = of_all (λ j. all_of (λ p. own_point net r p || is_listed (behind net r ps) p) (net.offers j)) j (behind net r ps) halves.1 i in
        along p w (is_behind p (of_all (λ p. own_point net r p || is_listed (behind net r ps) p) p (net.offers j) t walk.0) none.0) walk.1 none.1

    stays : (x : ℕ) (v : List ℕ) → IsIn x ps → IsLaneWalk net x v → HasNone net r (x ∷ v) → IsIn (last_of x v) (behind net r ps)
    stays x v i walk none = along x v (is_behind x (of_all (λ p. own_point net r p || is_listed (behind net r ps) p) x ps halves.0 i) none.0) walk none.1

    pub leads_no : (z : ℕ) → LaneTo net r ps z → leads_to net r ps z ≡ true
    leads_no z a = go a.way a.walk a.none
      where
        with_more : (b : Bool) → any_of (λ j. is_listed (net.offers j) z) (behind net r ps) ≡ true → (b || any_of (λ j. is_listed (net.offers j) z) (behind net r ps)) ≡ true
        with_more true e = refl
        with_more false e = e

        go : (u : List ℕ) → IsFrom net ps (u ++ z ∷ []) → HasNone net r u → leads_to net r ps z ≡ true
        go [] walk none = ap (λ b. b || any_of (λ j. is_listed (net.offers j) z) (behind net r ps)) (among z ps walk.0)
        go (x ∷ u) walk none =
            let last = (lane_back net x u (z ∷ []) walk.1).0 in
            with_more (is_listed ps z) (any_true (λ j. is_listed (net.offers j) z) (last_of x u) (behind net r ps) (stays x u walk.0 (lane_front net x u (z ∷ []) walk.1) none) (among z (net.offers (last_of x u)) last))

    pub ends_no : CanEndBy net r ps → can_end net r ps ≡ true
    ends_no (at_end e) = ap (λ xs. is_none xs || any_of (λ j. is_none (net.offers j)) (behind net r xs)) e
    ends_no (by_way x v i walk end fits) = with_more (is_none ps) (any_true (λ j. is_none (net.offers j)) (last_of x v) (behind net r ps) (stays x v i walk (all_none net r (x ∷ v) fits)) (ap is_none end))
      where
        with_more : (b : Bool) → any_of (λ j. is_none (net.offers j)) (behind net r ps) ≡ true → (b || any_of (λ j. is_none (net.offers j)) (behind net r ps)) ≡ true
        with_more true e = refl
        with_more false e = e
