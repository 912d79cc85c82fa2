-- A role's own lanes along a walk: they are a way through the net as the role meets it; and each such way goes on.
use Rattle.std.proofs.Common.{◌≡◌, ℕ, zero, suc, ◌+◌, ◌<◌, ◌≤◌, Bool, true, false, cond, ◌&&◌, not, List, [], ◌∷◌, ◌++◌, refl, sym, ◌∙◌, ap, subst, ◌⊎◌, inl, inr, ⊎_elim, arith, eq-eqb, ne_eqb}
use Rattle.std.specs.Prelude.{◌==◌, nat_le}
use Rattle.std.specs.List.{list_any, range_with_len}
use Rattle.std.proofs.lemmas.Bool.{cases_Bool, cases_eq, cases_lt}
use Rattle.std.proofs.lemmas.Bool.Decides.{nat_tests}
use Rattle.rcv_model.specs.Net.{Net, IsIn, opened, moved, MayCome, ComeFrom, left_by, IsLaneWalk, last_of}
use Rattle.rcv_model.specs.Next.{IsOf, HasNone, has_end, is_nil, points_in, next_begins, owns, met_behind, met_by, seen_by, HasLanes, IsProper}
use Rattle.rcv_model.proofs.Walks.{Ahead, moved_here, moved_else, opened_start}
use Rattle.rcv_model.proofs.Lanes.{IsLaned, moved_laned}

-- the lane has a point of the role
pub record IsOwnLane (net : Net) (r l : ℕ) : Type 0 where
  pub point : ℕ
  pub least : 1 ≤ point
  pub most : point ≤ net.count
  pub own : IsOf net r point
  pub lane : net.lane point ≡ l

-- a role has an end of a point, or it hasn't
pub is_of : (net : Net) (r p : ℕ) → IsOf net r p ⊎ (IsOf net r p → ⊥)
is_of net r p = ⊎_elim (λ e. inl (inl e)) (λ n. ⊎_elim (λ e. inl (inr e)) (λ m. inr (⊎_elim n m)) (cases_eq (net.receiver p) r)) (cases_eq (net.sender p) r)

own_up_to : (net : Net) (r l n : ℕ) → n ≤ net.count → IsOwnLane net r l ⊎ ((p : ℕ) → 1 ≤ p → p ≤ n → IsOf net r p → net.lane p ≡ l → ⊥)
own_up_to net r l zero le = inr (λ p low high. absurd (omega arith))
own_up_to net r l (suc n) le = go (own_up_to net r l n (omega arith)) (is_of net r (suc n)) (cases_eq (net.lane (suc n)) l)
  where
    go : IsOwnLane net r l ⊎ ((p : ℕ) → 1 ≤ p → p ≤ n → IsOf net r p → net.lane p ≡ l → ⊥) → IsOf net r (suc n) ⊎ (IsOf net r (suc n) → ⊥) → (net.lane (suc n) ≡ l) ⊎ (net.lane (suc n) ≡ l → ⊥) → IsOwnLane net r l ⊎ ((p : ℕ) → 1 ≤ p → p ≤ suc n → IsOf net r p → net.lane p ≡ l → ⊥)
    go (inl a) d e = inl a
    go (inr m) (inl o) (inl e) = inl (record { point = suc n; least = omega arith; most = le; own = o; lane = e })
    go (inr m) (inr o) e = inr (λ p low high own at'. ⊎_elim (λ f. o (subst (IsOf net r) f own)) (λ f. m p low (omega (arith, f)) own at') (cases_eq p (suc n)))
    go (inr m) (inl o) (inr e) = inr (λ p low high own at'. ⊎_elim (λ f. e (ap net.lane (sym f) ∙ at')) (λ f. m p low (omega (arith, f)) own at') (cases_eq p (suc n)))

pub own_lane : (net : Net) (r l : ℕ) → IsOwnLane net r l ⊎ (IsOwnLane net r l → ⊥)
own_lane net r l = ⊎_elim (λ a. inl a) (λ n. inr (λ a. n a.point a.least a.most a.own a.lane)) (own_up_to net r l net.count (omega arith))

pub own_same : (net : Net) (r l m : ℕ) → HasLanes net → IsOwnLane net r l → IsOwnLane net r m → net.stage l ≡ net.stage m → l ≡ m
own_same net r l m h a b e = sym a.lane ∙ h.one_lane r a.point b.point a.least a.most b.least b.most a.own b.own (ap net.stage a.lane ∙ e ∙ sym (ap net.stage b.lane)) ∙ b.lane

-- the points of a list that are in lanes of the role
picked : {P Q : Type 0} → P ⊎ Q → ℕ → List ℕ → List ℕ
picked (inl p) x w = x ∷ w
picked (inr q) x w = w

pub seen : Net → ℕ → List ℕ → List ℕ
seen net r [] = []
seen net r (x ∷ w) = picked (own_lane net r (net.lane x)) x (seen net r w)

pub seen_nil : (net : Net) (r : ℕ) → seen net r [] ≡ []
unfolding seen
seen_nil net r = refl

pub seen_yes : (net : Net) (r x : ℕ) (w : List ℕ) → IsOwnLane net r (net.lane x) → seen net r (x ∷ w) ≡ x ∷ seen net r w
unfolding seen picked
seen_yes net r x w own = go (own_lane net r (net.lane x))
  where
    go : (d : IsOwnLane net r (net.lane x) ⊎ (IsOwnLane net r (net.lane x) → ⊥)) → picked d x (seen net r w) ≡ x ∷ seen net r w
    go (inl a) = refl
    go (inr n) = absurd (n own)

pub seen_no : (net : Net) (r x : ℕ) (w : List ℕ) → (IsOwnLane net r (net.lane x) → ⊥) → seen net r (x ∷ w) ≡ seen net r w
unfolding seen picked
seen_no net r x w n = go (own_lane net r (net.lane x))
  where
    go : (d : IsOwnLane net r (net.lane x) ⊎ (IsOwnLane net r (net.lane x) → ⊥)) → picked d x (seen net r w) ≡ seen net r w
    go (inl a) = absurd (n a)
    go (inr m) = refl

pub seen_join : (net : Net) (r : ℕ) (u v : List ℕ) → seen net r (u ++ v) ≡ seen net r u ++ seen net r v
seen_join net r [] v = ap (λ l. l ++ seen net r v) (sym (seen_nil net r))
seen_join net r (x ∷ u) v = go (own_lane net r (net.lane x)) (seen_join net r u v)
  where
    go : IsOwnLane net r (net.lane x) ⊎ (IsOwnLane net r (net.lane x) → ⊥) → seen net r (u ++ v) ≡ seen net r u ++ seen net r v → seen net r (x ∷ (u ++ v)) ≡ seen net r (x ∷ u) ++ seen net r v
    go (inl i) ih = seen_yes net r x (u ++ v) i ∙ ap (λ l. x ∷ l) ih ∙ ap (λ l. l ++ seen net r v) (sym (seen_yes net r x u i))
    go (inr n) ih = seen_no net r x (u ++ v) n ∙ ih ∙ ap (λ l. l ++ seen net r v) (sym (seen_no net r x u n))

pub seen_none : (net : Net) (r : ℕ) (w : List ℕ) → ((x : ℕ) → IsIn x w → IsOwnLane net r (net.lane x) → ⊥) → seen net r w ≡ []
seen_none net r [] n = seen_nil net r
seen_none net r (x ∷ w) n = seen_no net r x w (n x (inl refl)) ∙ seen_none net r w (λ y i. n y (inr i))

-- where a role has none of the seen points, it has none of all
pub none_seen : (net : Net) (r : ℕ) (w : List ℕ) → ((x : ℕ) → IsIn x w → (1 ≤ x) × (x ≤ net.count)) → HasNone net r (seen net r w) → HasNone net r w
none_seen net r [] t h = tt
none_seen net r (x ∷ w) t h = go (own_lane net r (net.lane x)) (λ k. none_seen net r w (λ y i. t y (inr i)) k)
  where
    go : IsOwnLane net r (net.lane x) ⊎ (IsOwnLane net r (net.lane x) → ⊥) → (HasNone net r (seen net r w) → HasNone net r w) → HasNone net r (x ∷ w)
    go (inl a) ih = let k = subst (HasNone net r) (seen_yes net r x w a) h in (k.0, ih k.1)
    go (inr n) ih = (λ o. n (record { point = x; least = (t x (inl refl)).0; most = (t x (inl refl)).1; own = o; lane = refl }), ih (subst (HasNone net r) (seen_no net r x w n) h))

pub seen_none_of : (net : Net) (q r : ℕ) (w : List ℕ) → HasNone net q w → HasNone net q (seen net r w)
seen_none_of net q r [] h = subst (HasNone net q) (sym (seen_nil net r)) tt
seen_none_of net q r (x ∷ w) h = ⊎_elim
    (λ i. subst (HasNone net q) (sym (seen_yes net r x w i)) (h.0, seen_none_of net q r w h.1))
    (λ n. subst (HasNone net q) (sym (seen_no net r x w n)) (seen_none_of net q r w h.1))
    (own_lane net r (net.lane x))

-- a list is cut where its seen points are
pub record SeenCut (net : Net) (r : ℕ) (w u : List ℕ) (x : ℕ) (v : List ℕ) : Type 0 where
  pub front : List ℕ
  pub back : List ℕ
  pub whole : front ++ x ∷ back ≡ w
  pub seen_front : seen net r front ≡ u
  pub seen_back : seen net r back ≡ v
  pub own : IsOwnLane net r (net.lane x)

pub seen_cut : (net : Net) (r : ℕ) (w u : List ℕ) (x : ℕ) (v : List ℕ) → u ++ x ∷ v ≡ seen net r w → SeenCut net r w u x v
seen_cut net r [] u x v e = absurd (go u (e ∙ seen_nil net r))
  where
    go : (u : List ℕ) → u ++ x ∷ v ≡ [] → ⊥
    go [] f = cc
    go (y ∷ u) f = cc
seen_cut net r (y ∷ w) u x v e = go (own_lane net r (net.lane y)) u e (λ t f. seen_cut net r w t x v f)
  where
    go : IsOwnLane net r (net.lane y) ⊎ (IsOwnLane net r (net.lane y) → ⊥) → (u : List ℕ) → u ++ x ∷ v ≡ seen net r (y ∷ w) → ((t : List ℕ) → t ++ x ∷ v ≡ seen net r w → SeenCut net r w t x v) → SeenCut net r (y ∷ w) u x v
    go (inl i) [] f ih =
        let g : x ∷ v ≡ y ∷ seen net r w = f ∙ seen_yes net r y w i in
        let same : x ≡ y = cc in
        let rest : v ≡ seen net r w = cc in
        record { front = []; back = w; whole = ap (λ z. z ∷ w) same; seen_front = seen_nil net r; seen_back = sym rest; own = subst (λ z. IsOwnLane net r (net.lane z)) (sym same) i }
    go (inl i) (z ∷ t) f ih =
        let g : z ∷ (t ++ x ∷ v) ≡ y ∷ seen net r w = f ∙ seen_yes net r y w i in
        let same : z ≡ y = cc in
        let rest : t ++ x ∷ v ≡ seen net r w = cc in
        let c = ih t rest in
        record { front = y ∷ c.front; back = c.back; whole = ap (λ l. y ∷ l) c.whole; seen_front = seen_yes net r y c.front i ∙ ap (λ l. y ∷ l) c.seen_front ∙ ap (λ k. k ∷ t) (sym same); seen_back = c.seen_back; own = c.own }
    go (inr n) t f ih =
        let c = ih t (f ∙ seen_no net r y w n) in
        record { front = y ∷ c.front; back = c.back; whole = ap (λ l. y ∷ l) c.whole; seen_front = seen_no net r y c.front n ∙ c.seen_front; seen_back = c.seen_back; own = c.own }

-- a point whose lane a role can go to: it is one of r, its stage is from s on, and its lane begins with something
pub record IsWanted (net : Net) (r s q : ℕ) : Type 0 where
  pub own : IsOf net r q
  pub from : s ≤ net.stage (net.lane q)
  pub some : net.begins (net.lane q) ≡ [] → ⊥

wanted_test : (net : Net) (r s q : ℕ) → Bool
wanted_test net r s q = has_end net r q && (nat_le s (net.stage (net.lane q)) && not (is_nil (net.begins (net.lane q))))

both_so : (a b : Bool) → (a && b) ≡ true → (a ≡ true) × (b ≡ true)
both_so true b e = (refl, e)
both_so false b e = absurd (cc)

some_list : (ps : List ℕ) → not (is_nil ps) ≡ true → ps ≡ [] → ⊥
some_list ps t e = let f : is_nil ps ≡ true = ap is_nil e in let g : not (is_nil ps) ≡ false = ap not f in cc

list_some : (ps : List ℕ) → (ps ≡ [] → ⊥) → not (is_nil ps) ≡ true
list_some [] n = absurd (n refl)
list_some (p ∷ ps) n = refl

of_test : (net : Net) (r s q : ℕ) → wanted_test net r s q ≡ true → IsWanted net r s q
unfolding wanted_test
of_test net r s q t =
    let a = both_so (has_end net r q) (nat_le s (net.stage (net.lane q)) && not (is_nil (net.begins (net.lane q)))) t in
    let b = both_so (nat_le s (net.stage (net.lane q))) (not (is_nil (net.begins (net.lane q)))) a.1 in
    record { own = ⊎_elim (λ o. o) (λ n. absurd (none' n a.0)) (is_of net r q); from = (let x = b.0 in grind (arith, nat_tests)); some = some_list (net.begins (net.lane q)) b.1 }
  where
    none' : (IsOf net r q → ⊥) → has_end net r q ≡ true → ⊥
    none' n t = let a = ne_eqb (net.sender q) r (λ e. n (inl e)) in let b = ne_eqb (net.receiver q) r (λ e. n (inr e)) in grind (arith, nat_tests)

to_test : (net : Net) (r s q : ℕ) → IsWanted net r s q → wanted_test net r s q ≡ true
unfolding wanted_test
to_test net r s q w =
    let a : has_end net r q ≡ true = ⊎_elim (λ e. let b = eq-eqb (net.sender q) r e in grind (arith, nat_tests)) (λ e. let b = eq-eqb (net.receiver q) r e in grind (arith, nat_tests)) w.own in
    let b : nat_le s (net.stage (net.lane q)) ≡ true = (let f = w.from in grind (arith, nat_tests)) in
    let c = list_some (net.begins (net.lane q)) w.some in
    grind (arith, nat_tests)

-- what the next lane begins with: that of the first such point, or nothing where there is none
pub data NextLane (net : Net) (r s a n : ℕ) : Type 0 where
  no_lane : next_begins net r s (range_with_len a n) ≡ [] → ((q : ℕ) → a ≤ q → q < a + n → IsWanted net r s q → ⊥) → NextLane net r s a n
  the_lane : (q : ℕ) → a ≤ q → q < a + n → IsWanted net r s q → ((t : ℕ) → a ≤ t → t < q → IsWanted net r s t → ⊥)
      → next_begins net r s (range_with_len a n) ≡ net.begins (net.lane q) → NextLane net r s a n

pub next_lane : (net : Net) (r s a n : ℕ) → NextLane net r s a n
unfolding wanted_test
next_lane net r s a zero = no_lane refl (λ q low high. absurd (omega arith))
next_lane net r s a (suc n) = go (cases_Bool (wanted_test net r s a)) (next_lane net r s (a + 1) n)
  where
    step : (b : Bool) → wanted_test net r s a ≡ b → next_begins net r s (range_with_len a (suc n)) ≡ cond b (net.begins (net.lane a)) (next_begins net r s (range_with_len (a + 1) n))
    step b t = ap (λ c. cond c (net.begins (net.lane a)) (next_begins net r s (range_with_len (a + 1) n))) t

    go : (wanted_test net r s a ≡ true) ⊎ (wanted_test net r s a ≡ false) → NextLane net r s (a + 1) n → NextLane net r s a (suc n)
    go (inl t) rest = the_lane a (omega arith) (omega arith) (of_test net r s a t) (λ q low high w. absurd (omega arith)) (step true t)
    go (inr f) (no_lane e none') = no_lane (step false f ∙ e) (λ q low high w. ⊎_elim (λ g. not_a f (subst (IsWanted net r s) g w)) (λ m. none' q (omega (arith, m)) (omega arith) w) (cases_eq q a))
      where
        not_a : wanted_test net r s a ≡ false → IsWanted net r s a → ⊥
        not_a f w = let t = to_test net r s a w in cc
    go (inr f) (the_lane q low high w least e) = the_lane q (omega arith) (omega arith) w (λ t l h v. ⊎_elim (λ g. not_a f (subst (IsWanted net r s) g v)) (λ m. least t (omega (arith, m)) h v) (cases_eq t a)) (step false f ∙ e)
      where
        not_a : wanted_test net r s a ≡ false → IsWanted net r s a → ⊥
        not_a f w = let t = to_test net r s a w in cc

pub own_wanted : (net : Net) (r s q : ℕ) → 1 ≤ q → q < 1 + net.count → IsWanted net r s q → IsOwnLane net r (net.lane q)
own_wanted net r s q low high w = record { point = q; least = low; most = omega arith; own = w.own; lane = refl }

-- where lanes stand, as the role sees it: it is at the start, and its lanes wait; or it is behind j in one of its lanes, with
-- the lanes of earlier stages ended and its later lanes waiting; or behind j in a lane of others, with its later lanes waiting
-- and no other open
pub data Sees (net : Net) (r : ℕ) (ahead : Ahead) (j : ℕ) : Type 0 where
  sees_start : j ≡ 0 → ((l : ℕ) → IsOwnLane net r l → ahead l ≡ net.begins l) → Sees net r ahead j
  sees_point : 1 ≤ j → IsOwnLane net r (net.lane j) → ahead (net.lane j) ≡ net.offers j
      → ((l : ℕ) → net.stage l < net.stage (net.lane j) → ahead l ≡ [])
      → ((l : ℕ) → IsOwnLane net r l → net.stage (net.lane j) < net.stage l → ahead l ≡ net.begins l) → Sees net r ahead j
  sees_else : 1 ≤ j → (IsOwnLane net r (net.lane j) → ⊥)
      → ((l : ℕ) → IsOwnLane net r l → (net.stage (net.lane j) < net.stage l → ⊥) → ahead l ≡ [])
      → ((l : ℕ) → IsOwnLane net r l → net.stage (net.lane j) < net.stage l → ahead l ≡ net.begins l) → Sees net r ahead j

pub sees_opened : (net : Net) (r : ℕ) → HasLanes net → Sees net r (opened net 0) 0
sees_opened net r h = sees_start refl (λ l own. opened_start net l h)

-- whether a lane is the role's, by the test
any_in : (f : ℕ → Bool) (a n : ℕ) → list_any f (range_with_len a n) ≡ true → (p : ℕ) × (a ≤ p) × (p < a + n) × (f p ≡ true)
any_in f a zero t = absurd (cc)
any_in f a (suc n) t = go (cases_Bool (f a)) (any_in f (a + 1) n)
  where
    go : (f a ≡ true) ⊎ (f a ≡ false) → (list_any f (range_with_len (a + 1) n) ≡ true → (p : ℕ) × (a + 1 ≤ p) × (p < a + 1 + n) × (f p ≡ true)) → (p : ℕ) × (a ≤ p) × (p < a + suc n) × (f p ≡ true)
    go (inl e) ih = (a, omega arith, omega arith, e)
    go (inr e) ih = let r = ih (grind (arith, nat_tests)) in (r.0, (let x = r.1 in omega arith), (let x = r.2 in omega arith), r.3)

in_any : (f : ℕ → Bool) (a n p : ℕ) → a ≤ p → p < a + n → f p ≡ true → list_any f (range_with_len a n) ≡ true
in_any f a zero p le lt t = absurd (omega arith)
in_any f a (suc n) p le lt t = ⊎_elim
    (λ e. let g : f a ≡ true = ap f (sym e) ∙ t in grind (arith, nat_tests))
    (λ m. let ih = in_any f (a + 1) n p (omega (arith, m)) (omega arith) t in grind (arith, nat_tests))
    (cases_eq p a)

owns_yes : (net : Net) (r l : ℕ) → IsOwnLane net r l → owns net r l ≡ true
owns_yes net r l own = in_any (λ p. has_end net r p && net.lane p == l) 1 net.count own.point own.least (let m = own.most in omega arith) test
  where
    test : (has_end net r own.point && net.lane own.point == l) ≡ true
    test =
        let a : has_end net r own.point ≡ true = ⊎_elim (λ e. let b = eq-eqb (net.sender own.point) r e in grind (arith, nat_tests)) (λ e. let b = eq-eqb (net.receiver own.point) r e in grind (arith, nat_tests)) own.own in
        let c = eq-eqb (net.lane own.point) l own.lane in
        grind (arith, nat_tests)

owns_only : (net : Net) (r l : ℕ) → owns net r l ≡ true → IsOwnLane net r l
owns_only net r l t = go (any_in (λ p. has_end net r p && net.lane p == l) 1 net.count t)
  where
    go : (p : ℕ) × (1 ≤ p) × (p < 1 + net.count) × ((has_end net r p && net.lane p == l) ≡ true) → IsOwnLane net r l
    go a =
        let b = both_so (has_end net r a.0) (net.lane a.0 == l) a.3 in
        record { point = a.0; least = a.1; most = (let x = a.2 in omega arith); own = end b.0; lane = ⊎_elim (λ e. e) (λ n. absurd (let c = ne_eqb (net.lane a.0) l n in let d = b.1 in cc)) (cases_eq (net.lane a.0) l) }
      where
        end : has_end net r a.0 ≡ true → IsOf net r a.0
        end t = ⊎_elim (λ o. o) (λ n. absurd (let x = ne_eqb (net.sender a.0) r (λ e. n (inl e)) in let y = ne_eqb (net.receiver a.0) r (λ e. n (inr e)) in grind (arith, nat_tests))) (is_of net r a.0)

-- what the role meets at j
pub data Met (net : Net) (r j : ℕ) : Type 0 where
  met_first : j ≡ 0 → met_by net r j ≡ next_begins net r 0 (points_in net) → Met net r j
  met_here : 1 ≤ j → IsOwnLane net r (net.lane j) → (net.offers j ≡ [] → ⊥) → met_by net r j ≡ net.offers j → Met net r j
  met_next : 1 ≤ j → IsOwnLane net r (net.lane j) → net.offers j ≡ [] → met_by net r j ≡ next_begins net r (net.stage (net.lane j) + 1) (points_in net) → Met net r j
  met_else : 1 ≤ j → (IsOwnLane net r (net.lane j) → ⊥) → met_by net r j ≡ next_begins net r (net.stage (net.lane j) + 1) (points_in net) → Met net r j

pub met : (net : Net) (r j : ℕ) → Met net r j
met net r j = ⊎_elim
    (λ e. met_first e (ap (λ b. cond b (next_begins net r 0 (points_in net)) (cond (owns net r (net.lane j)) (met_behind net r j (net.offers j)) (met_behind net r j []))) (eq-eqb j 0 e)))
    (λ n. by_lane n (cases_Bool (owns net r (net.lane j))))
    (cases_eq j 0)
  where
    not_start : (j ≡ 0 → ⊥) → met_by net r j ≡ cond (owns net r (net.lane j)) (met_behind net r j (net.offers j)) (met_behind net r j [])
    not_start n = ap (λ b. cond b (next_begins net r 0 (points_in net)) (cond (owns net r (net.lane j)) (met_behind net r j (net.offers j)) (met_behind net r j []))) (ne_eqb j 0 n)

    behind : (j ≡ 0 → ⊥) → owns net r (net.lane j) ≡ true → (ps : List ℕ) → net.offers j ≡ ps → Met net r j
    behind n t [] e = met_next (omega (arith, n)) (owns_only net r (net.lane j) t) e (not_start n ∙ ap (λ b. cond b (met_behind net r j (net.offers j)) (met_behind net r j [])) t ∙ ap (met_behind net r j) e)
    behind n t (p ∷ ps) e = met_here (omega (arith, n)) (owns_only net r (net.lane j) t) (λ f. let g : p ∷ ps ≡ [] = sym e ∙ f in cc) (not_start n ∙ ap (λ b. cond b (met_behind net r j (net.offers j)) (met_behind net r j [])) t ∙ ap (met_behind net r j) e ∙ sym e)

    by_lane : (j ≡ 0 → ⊥) → (owns net r (net.lane j) ≡ true) ⊎ (owns net r (net.lane j) ≡ false) → Met net r j
    by_lane n (inl t) = behind n t (net.offers j) refl
    by_lane n (inr f) = met_else (omega (arith, n)) (λ own. let t = owns_yes net r (net.lane j) own in absurd (cc)) (not_start n ∙ ap (λ b. cond b (met_behind net r j (net.offers j)) (met_behind net r j [])) f)

module _ (net : Net) (roles r : ℕ) (proper : IsProper net roles) where
  -- a point in a lane of the role that may come is what its next lane begins with
  begins_next : (s x : ℕ) (ahead : Ahead) → MayCome net ahead x → IsOwnLane net r (net.lane x) → s ≤ net.stage (net.lane x) → ((l : ℕ) → IsOwnLane net r l → s ≤ net.stage l → ahead l ≡ net.begins l) → IsIn x (next_begins net r s (points_in net))
  begins_next s x ahead may own le fresh = go (next_lane net r s 1 net.count)
    where
      here' : IsIn x (net.begins (net.lane x))
      here' = subst (IsIn x) (fresh (net.lane x) own le) may.offered

      not_nil : net.begins (net.lane x) ≡ [] → ⊥
      not_nil e = subst (IsIn x) e here'

      wanted : IsWanted net r s own.point
      wanted = record { own = own.own; from = subst (λ l. s ≤ net.stage l) (sym own.lane) le; some = λ e. not_nil (ap net.begins (sym own.lane) ∙ e) }

      go : NextLane net r s 1 net.count → IsIn x (next_begins net r s (points_in net))
      go (no_lane e none') = absurd (none' own.point own.least (let m = own.most in omega arith) wanted)
      go (the_lane q low high w least e) = subst (IsIn x) (sym e) (subst (λ l. IsIn x (net.begins l)) same here')
        where
          before : q ≤ own.point
          before = ⊎_elim (λ lt. absurd (least own.point own.least lt wanted)) (λ ge. ge) (cases_lt own.point q)

          stages : net.stage (net.lane q) ≤ net.stage (net.lane x)
          stages = let o = proper.lanes.in_order q own.point low before own.most in omega (arith, o, ap net.stage own.lane)

          same : net.lane x ≡ net.lane q
          same = ⊎_elim
              (λ lt. absurd (w.some (sym (fresh (net.lane q) (own_wanted net r s q low high w) w.from) ∙ may.ended (net.lane q) lt)))
              (λ ge. own_same net r (net.lane x) (net.lane q) proper.lanes own (own_wanted net r s q low high w) (omega (arith, ge, stages)))
              (cases_lt (net.stage (net.lane q)) (net.stage (net.lane x)))

  -- a point in a lane of the role that may come is one that the role meets
  pub sees_met : (j x : ℕ) (ahead : Ahead) → MayCome net ahead x → IsOwnLane net r (net.lane x) → Sees net r ahead j → IsIn x (met_by net r j)
  sees_met j x ahead may own (sees_start z fresh) = subst (λ k. IsIn x (met_by net r k)) (sym z) (begins_next 0 x ahead may own (omega arith) (λ l o le. fresh l o))
  sees_met j x ahead may own (sees_point low mine here' past fresh) = ⊎_elim at_here elsewhere (cases_eq (net.lane x) (net.lane j))
    where
      at_here : net.lane x ≡ net.lane j → IsIn x (met_by net r j)
      at_here e = go (met net r j)
        where
          i : IsIn x (net.offers j)
          i = subst (IsIn x) (ap ahead e ∙ here') may.offered

          go : Met net r j → IsIn x (met_by net r j)
          go (met_first z f) = absurd (omega (arith, z))
          go (met_here l o n f) = subst (IsIn x) (sym f) i
          go (met_next l o n f) = absurd (subst (IsIn x) n i)
          go (met_else l n f) = absurd (n mine)

      elsewhere : (net.lane x ≡ net.lane j → ⊥) → IsIn x (met_by net r j)
      elsewhere n = ⊎_elim
          (λ lt. absurd (subst (IsIn x) (past (net.lane x) lt) may.offered))
          (λ ge. ⊎_elim later (λ le. absurd (n (own_same net r (net.lane x) (net.lane j) proper.lanes own mine (omega (arith, ge, le))))) (cases_lt (net.stage (net.lane j)) (net.stage (net.lane x))))
          (cases_lt (net.stage (net.lane x)) (net.stage (net.lane j)))
        where
          later : net.stage (net.lane j) < net.stage (net.lane x) → IsIn x (met_by net r j)
          later lt = go (met net r j)
            where
              shut : net.offers j ≡ []
              shut = sym here' ∙ may.ended (net.lane j) lt

              go : Met net r j → IsIn x (met_by net r j)
              go (met_first z f) = absurd (omega (arith, z))
              go (met_here l o m f) = absurd (m shut)
              go (met_next l o m f) = subst (IsIn x) (sym f) (begins_next (net.stage (net.lane j) + 1) x ahead may own (omega (arith, lt)) (λ l o le. fresh l o (omega (arith, le))))
              go (met_else l m f) = absurd (m mine)
  sees_met j x ahead may own (sees_else low not_mine past fresh) = go (met net r j)
    where
      later : net.stage (net.lane j) < net.stage (net.lane x)
      later = ⊎_elim (λ lt. lt) (λ le. absurd (subst (IsIn x) (past (net.lane x) own (λ lt. omega (arith, le, lt))) may.offered)) (cases_lt (net.stage (net.lane j)) (net.stage (net.lane x)))

      go : Met net r j → IsIn x (met_by net r j)
      go (met_first z f) = absurd (omega (arith, z))
      go (met_here l o m f) = absurd (not_mine o)
      go (met_next l o m f) = absurd (not_mine o)
      go (met_else l m f) = subst (IsIn x) (sym f) (begins_next (net.stage (net.lane j) + 1) x ahead may own (let lt = later in omega arith) (λ l o le. fresh l o (omega (arith, le))))

  -- a point on, in a lane of the role or aside
  pub sees_on : (j x : ℕ) (ahead : Ahead) → 1 ≤ x → MayCome net ahead x → IsOwnLane net r (net.lane x) → Sees net r ahead j → Sees net r (moved net ahead x) x
  sees_on j x ahead low may own sees = sees_point low own (moved_here net ahead x (net.lane x) refl) (λ l lt. moved_else net ahead x l (λ e. omega (arith, lt, ap net.stage e)) ∙ may.ended l lt) (λ l o lt. moved_else net ahead x l (λ e. omega (arith, lt, ap net.stage e)) ∙ waits sees l o lt)
    where
      waits : Sees net r ahead j → (l : ℕ) → IsOwnLane net r l → net.stage (net.lane x) < net.stage l → ahead l ≡ net.begins l
      waits (sees_start z fresh) l o lt = fresh l o
      waits (sees_point low' mine here' past fresh) l o lt = ⊎_elim
          (λ less. absurd (subst (IsIn x) (past (net.lane x) less) may.offered))
          (λ ge. fresh l o (omega (arith, ge, lt)))
          (cases_lt (net.stage (net.lane x)) (net.stage (net.lane j)))
      waits (sees_else low' not_mine past fresh) l o lt = ⊎_elim
          (λ less. fresh l o (omega (arith, less, lt)))
          (λ le. absurd (subst (IsIn x) (past (net.lane x) own (λ less. omega (arith, le, less))) may.offered))
          (cases_lt (net.stage (net.lane j)) (net.stage (net.lane x)))

  pub sees_aside : (j x : ℕ) (ahead : Ahead) → MayCome net ahead x → (IsOwnLane net r (net.lane x) → ⊥) → Sees net r ahead j → Sees net r (moved net ahead x) j
  sees_aside j x ahead may aside (sees_start z fresh) = sees_start z (λ l o. moved_else net ahead x l (λ e. aside (subst (IsOwnLane net r) e o)) ∙ fresh l o)
  sees_aside j x ahead may aside (sees_point low mine here' past fresh) = sees_point low mine
      (moved_else net ahead x (net.lane j) (λ e. aside (subst (IsOwnLane net r) e mine)) ∙ here')
      (λ l lt. moved_else net ahead x l (λ e. subst (IsIn x) (ap ahead (sym e) ∙ past l lt) may.offered) ∙ past l lt)
      (λ l o lt. moved_else net ahead x l (λ e. aside (subst (IsOwnLane net r) e o)) ∙ fresh l o lt)
  sees_aside j x ahead may aside (sees_else low not_mine past fresh) = sees_else low not_mine
      (λ l o n. moved_else net ahead x l (λ e. aside (subst (IsOwnLane net r) e o)) ∙ past l o n)
      (λ l o lt. moved_else net ahead x l (λ e. aside (subst (IsOwnLane net r) e o)) ∙ fresh l o lt)

  -- the seen points of a walk are a way through the net as the role meets it
  pub record SeesWalk (ahead : Ahead) (j : ℕ) (w : List ℕ) : Type 0 where
    pub way : IsLaneWalk (seen_by net r) j (seen net r w)
    pub sees : Sees net r (left_by net ahead w) (last_of j (seen net r w))

  pub sees_walk : (ahead : Ahead) (j : ℕ) (w : List ℕ) → IsLaned net ahead → ComeFrom net ahead w → Sees net r ahead j → SeesWalk ahead j w
  sees_walk ahead j [] laned c s = record { way = subst (IsLaneWalk (seen_by net r) j) (sym (seen_nil net r)) tt; sees = subst (λ u. Sees net r ahead (last_of j u)) (sym (seen_nil net r)) s }
  sees_walk ahead j (x ∷ w) laned c s = ⊎_elim
      (λ i. yes i (sees_walk (moved net ahead x) x w (moved_laned net roles ahead x proper laned) c.1 (sees_on j x ahead (laned.in_text (net.lane x) x c.0.offered).0 c.0 i s)))
      (λ n. no n (sees_walk (moved net ahead x) j w (moved_laned net roles ahead x proper laned) c.1 (sees_aside j x ahead c.0 n s)))
      (own_lane net r (net.lane x))
    where
      yes : IsOwnLane net r (net.lane x) → SeesWalk (moved net ahead x) x w → SeesWalk ahead j (x ∷ w)
      yes i rest = record {
        way = subst (IsLaneWalk (seen_by net r) j) (sym (seen_yes net r x w i)) (sees_met j x ahead c.0 i s, rest.way);
        sees = subst (λ u. Sees net r (left_by net (moved net ahead x) w) (last_of j u)) (sym (seen_yes net r x w i)) rest.sees;
      }

      no : (IsOwnLane net r (net.lane x) → ⊥) → SeesWalk (moved net ahead x) j w → SeesWalk ahead j (x ∷ w)
      no n rest = record {
        way = subst (IsLaneWalk (seen_by net r) j) (sym (seen_no net r x w n)) rest.way;
        sees = subst (λ u. Sees net r (left_by net (moved net ahead x) w) (last_of j u)) (sym (seen_no net r x w n)) rest.sees;
      }

  -- a point that the role meets is offered by its lane, which is one of the role's; and the role's lanes of earlier stages are ended
  pub record IsMet (ahead : Ahead) (t : ℕ) : Type 0 where
    pub offered : IsIn t (ahead (net.lane t))
    pub own : IsOwnLane net r (net.lane t)
    pub past : (l : ℕ) → IsOwnLane net r l → net.stage l < net.stage (net.lane t) → ahead l ≡ []

  met_begun : (s t : ℕ) (ahead : Ahead) → ((l : ℕ) → IsOwnLane net r l → s ≤ net.stage l → ahead l ≡ net.begins l) → ((l : ℕ) → IsOwnLane net r l → net.stage l < s → ahead l ≡ []) → IsIn t (next_begins net r s (points_in net)) → IsMet ahead t
  met_begun s t ahead fresh past i = go (next_lane net r s 1 net.count)
    where
      go : NextLane net r s 1 net.count → IsMet ahead t
      go (no_lane e none') = absurd (subst (IsIn t) e i)
      go (the_lane q low high w least e) = record {
        offered = subst (IsIn t) (sym (ap ahead same ∙ fresh (net.lane q) own_q w.from)) begun;
        own = subst (IsOwnLane net r) (sym same) own_q;
        past = λ l o lt. ⊎_elim (λ less. past l o less) (λ ge. fresh l o ge ∙ nothing l o ge (subst (λ m. net.stage l < net.stage m) same lt) (net.begins l) refl) (cases_lt (net.stage l) s);
      }
        where
          begun : IsIn t (net.begins (net.lane q))
          begun = subst (IsIn t) e i

          same : net.lane t ≡ net.lane q
          same = proper.lanes.begun (net.lane q) t begun

          own_q : IsOwnLane net r (net.lane q)
          own_q = own_wanted net r s q low high w

          nothing : (l : ℕ) → IsOwnLane net r l → s ≤ net.stage l → net.stage l < net.stage (net.lane q) → (ps : List ℕ) → net.begins l ≡ ps → net.begins l ≡ []
          nothing l o le lt [] f = f
          nothing l o le lt (p ∷ ps) f = absurd (least o.point o.least before (record { own = o.own; from = subst (λ m. s ≤ net.stage m) (sym o.lane) le; some = λ g. let h : p ∷ ps ≡ [] = sym f ∙ ap net.begins (sym o.lane) ∙ g in cc }))
            where
              before : o.point < q
              before = ⊎_elim (λ less. less) (λ ge. let k = proper.lanes.in_order q o.point low ge o.most in absurd (omega (arith, k, lt, ap net.stage o.lane))) (cases_lt o.point q)

  pub met_offered : (j t : ℕ) (ahead : Ahead) → Sees net r ahead j → IsIn t (met_by net r j) → IsMet ahead t
  met_offered j t ahead (sees_start z fresh) i = met_begun 0 t ahead (λ l o le. fresh l o) (λ l o lt. absurd (omega arith)) (subst (λ k. IsIn t (met_by net r k)) z i)
  met_offered j t ahead (sees_point low mine here' past fresh) i = go (met net r j)
    where
      go : Met net r j → IsMet ahead t
      go (met_first z f) = absurd (omega (arith, z))
      go (met_else l n f) = absurd (n mine)
      go (met_here l o n f) =
          let k : IsIn t (net.offers j) = subst (IsIn t) f i in
          let same : net.lane t ≡ net.lane j = proper.lanes.kept j t k in
          record {
            offered = subst (IsIn t) (sym (ap ahead same ∙ here')) k;
            own = subst (IsOwnLane net r) (sym same) mine;
            past = λ m o lt. past m (subst (λ n. net.stage m < net.stage n) same lt);
          }
      go (met_next l o n f) = met_begun (net.stage (net.lane j) + 1) t ahead (λ m o le. fresh m o (omega (arith, le))) (λ m o lt. ⊎_elim (λ less. past m less) (λ ge. ap ahead (own_same net r m (net.lane j) proper.lanes o mine (omega (arith, lt, ge))) ∙ here' ∙ n) (cases_lt (net.stage m) (net.stage (net.lane j)))) (subst (IsIn t) f i)
  met_offered j t ahead (sees_else low not_mine past fresh) i = go (met net r j)
    where
      go : Met net r j → IsMet ahead t
      go (met_first z f) = absurd (omega (arith, z))
      go (met_here l o n f) = absurd (not_mine o)
      go (met_next l o n f) = absurd (not_mine o)
      go (met_else l n f) = met_begun (net.stage (net.lane j) + 1) t ahead (λ m o le. fresh m o (omega (arith, le))) (λ m o lt. past m o (λ less. omega (arith, lt, less))) (subst (IsIn t) f i)

  -- what a role meets at one place is in one lane
  pub met_one_lane : (j p q : ℕ) → IsIn p (met_by net r j) → IsIn q (met_by net r j) → net.lane p ≡ net.lane q
  met_one_lane j p q i k = go (met net r j)
    where
      begun : (s : ℕ) → met_by net r j ≡ next_begins net r s (points_in net) → NextLane net r s 1 net.count → net.lane p ≡ net.lane q
      begun s f (no_lane e none') = absurd (subst (IsIn p) (f ∙ e) i)
      begun s f (the_lane x low high w least e) = proper.lanes.begun (net.lane x) p (subst (IsIn p) (f ∙ e) i) ∙ sym (proper.lanes.begun (net.lane x) q (subst (IsIn q) (f ∙ e) k))

      go : Met net r j → net.lane p ≡ net.lane q
      go (met_first z f) = begun 0 f (next_lane net r 0 1 net.count)
      go (met_here l o n f) = proper.lanes.kept j p (subst (IsIn p) f i) ∙ sym (proper.lanes.kept j q (subst (IsIn q) f k))
      go (met_else l n f) = begun (net.stage (net.lane j) + 1) f (next_lane net r (net.stage (net.lane j) + 1) 1 net.count)
      go (met_next l o n f) = begun (net.stage (net.lane j) + 1) f (next_lane net r (net.stage (net.lane j) + 1) 1 net.count)
