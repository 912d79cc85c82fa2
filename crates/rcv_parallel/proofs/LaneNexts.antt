-- The next points of a role where lanes go side by side, found by computing: for worked examples.
use Rattle.std.proofs.Common.{◌≡◌, ℕ, zero, suc, ◌+◌, ◌<◌, ◌≤◌, Bool, true, false, ◌&&◌, List, [], ◌∷◌, refl, sym, subst, ⊎_elim, inl, arith}
use Rattle.std.specs.Prelude.{nat_lt}
use Rattle.std.specs.List.{filter, range_with_len}
use Rattle.std.proofs.lemmas.Bool.Decides.{nat_tests}
use Rattle.rcv_model.specs.Net.{Net, IsIn, opened}
use Rattle.rcv_model.specs.Next.{IsNext, AreNext, points_in, IsProper}
use Rattle.rcv_model.specs.Places.{union}
use Rattle.rcv_model.proofs.Checked.{own_point, all_of, implies, both_true, when, of_all}
use Rattle.rcv_model.proofs.Completing.{at_end}
use Rattle.rcv_model.proofs.Lanes.{IsLaned, opened_laned}
use Rattle.rcv_model.proofs.NextLists.{from_in, in_range, of_filter, in_filter}
use Rattle.rcv_model.proofs.Parted.{CanEndBy, ComesTo, ComesByLanes, by_lanes, of_lanes}
use Rattle.rcv_model.proofs.PlacesLemmas.{union_left, union_only}
use Rattle.rcv_model.proofs.Same.{rises_nil, union_rises}
use Rattle.rcv_model.proofs.Ways.{next_in_text}
use Rattle.rcv_parallel.proofs.InLanes.{both, is_own, own_is, is_closed, leads_to, can_end, leads_yes, leads_no, ends_yes, ends_no}

-- the lane of the point q, as a walk from place k opens it
abbrev pub lane_from : Net → ℕ → ℕ → List ℕ
lane_from net k q = opened net k (net.lane q)

-- the point z comes without a point of r before it: its lane leads to it, and each lane of an earlier stage can be ended
abbrev pub comes : Net → ℕ → ℕ → ℕ → Bool
comes net r k z =
    leads_to net r (lane_from net k z) z
    && all_of (λ q. implies (nat_lt (net.stage (net.lane q)) (net.stage (net.lane z))) (can_end net r (lane_from net k q))) (points_in net)

abbrev pub is_next : Net → ℕ → ℕ → ℕ → Bool
is_next net r k z = own_point net r z && comes net r k z

abbrev pub nexts_at : Net → ℕ → ℕ → List ℕ
nexts_at net r k = union (filter (is_next net r k) (points_in net)) []

-- the searches in lanes are whole
abbrev pub are_closed : Net → ℕ → ℕ → Bool
are_closed net r k = all_of (λ q. is_closed net r (lane_from net k q)) (points_in net)

-- a point of the text is one of these
pub of_points : (net : Net) (f : ℕ → Bool) (p : ℕ) → all_of f (points_in net) ≡ true → 1 ≤ p → p ≤ net.count → f p ≡ true
of_points net f p t low high = of_all f p (points_in net) t (from_in p (points_in net) (in_range 1 net.count p low (omega (arith, high))))

all_from : (f : ℕ → Bool) (a n : ℕ) → ((p : ℕ) → a ≤ p → p < a + n → f p ≡ true) → all_of f (range_with_len a n) ≡ true
all_from f a zero each = refl
all_from f a (suc n) each = both (f a) (all_of f (range_with_len (a + 1) n)) (each a (omega arith) (omega arith)) (all_from f (a + 1) n (λ p le lt. each p (omega arith) (omega arith)))

all_points : (net : Net) (f : ℕ → Bool) → ((p : ℕ) → 1 ≤ p → p ≤ net.count → f p ≡ true) → all_of f (points_in net) ≡ true
all_points net f each = all_from f 1 net.count (λ p low lt. each p low (omega (arith, lt)))

module _ (net : Net) (roles : ℕ) (proper : IsProper net roles) (r k : ℕ) where
  laned : IsLaned net (opened net k)
  laned = opened_laned net roles k proper

  -- lanes without a point are ended
  all_lanes : (s : ℕ) → ((q : ℕ) → 1 ≤ q → q ≤ net.count → net.stage (net.lane q) < s → CanEndBy net r (lane_from net k q)) → (l : ℕ) → net.stage l < s → CanEndBy net r (opened net k l)
  all_lanes s ends l lt = go (opened net k l) refl
    where
      go : (ps : List ℕ) → opened net k l ≡ ps → CanEndBy net r (opened net k l)
      go [] e = at_end e
      go (y ∷ ps) e =
          let i : IsIn y (opened net k l) = subst (IsIn y) (sym e) (inl refl) in
          let t = laned.in_text l y i in
          let m = laned.lane l y i in
          subst (λ x. CanEndBy net r (opened net k x)) m (ends y t.0 t.1 (subst (λ x. net.stage x < s) (sym m) lt))

  pub comes_yes : (z : ℕ) → comes net r k z ≡ true → ComesTo net r (opened net k) z
  comes_yes z t =
      let b = both_true (leads_to net r (lane_from net k z) z) (all_of (λ q. implies (nat_lt (net.stage (net.lane q)) (net.stage (net.lane z))) (can_end net r (lane_from net k q))) (points_in net)) t in
      of_lanes net roles proper r (opened net k) z laned (record { lane = leads_yes net r (lane_from net k z) z b.0; ends = all_lanes (net.stage (net.lane z)) (λ q low high lt. early q b.1 low high lt) })
    where
      early : (q : ℕ) → all_of (λ q. implies (nat_lt (net.stage (net.lane q)) (net.stage (net.lane z))) (can_end net r (lane_from net k q))) (points_in net) ≡ true → 1 ≤ q → q ≤ net.count → net.stage (net.lane q) < net.stage (net.lane z) → CanEndBy net r (lane_from net k q)
      early q t low high lt = ends_yes net r (lane_from net k q) (when (nat_lt (net.stage (net.lane q)) (net.stage (net.lane z))) (can_end net r (lane_from net k q)) (of_points net (λ q. implies (nat_lt (net.stage (net.lane q)) (net.stage (net.lane z))) (can_end net r (lane_from net k q))) q t low high) (grind (arith, nat_tests)))

  pub next_yes : (z : ℕ) → is_next net r k z ≡ true → IsNext net r k z
  next_yes z t =
      let b = both_true (own_point net r z) (comes net r k z) t in
      let c = comes_yes z b.1 in
      record { way = c.way; walk = c.walk; none = c.none; own = own_is net r z b.0 }

  module _ (ok : are_closed net r k ≡ true) where
    pub closed_at : (q : ℕ) → 1 ≤ q → q ≤ net.count → is_closed net r (lane_from net k q) ≡ true
    closed_at q low high = of_points net (λ q. is_closed net r (lane_from net k q)) q ok low high

    next_no : (z : ℕ) → 1 ≤ z → z ≤ net.count → IsNext net r k z → is_next net r k z ≡ true
    next_no z low high n = both (own_point net r z) (comes net r k z) (is_own net r z n.own) (both (leads_to net r (lane_from net k z) z) (all_of early (points_in net)) (leads_no net r (lane_from net k z) (closed_at z low high) z by.lane) (all_points net early each))
      where
        early : ℕ → Bool
        early q = implies (nat_lt (net.stage (net.lane q)) (net.stage (net.lane z))) (can_end net r (lane_from net k q))

        by : ComesByLanes net r (opened net k) z
        by = by_lanes net roles proper r (opened net k) z (record { way = n.way; walk = n.walk; none = n.none })

        each : (q : ℕ) → 1 ≤ q → q ≤ net.count → implies (nat_lt (net.stage (net.lane q)) (net.stage (net.lane z))) (can_end net r (lane_from net k q)) ≡ true
        each q l h = go (nat_lt (net.stage (net.lane q)) (net.stage (net.lane z))) refl
          where
            go : (b : Bool) → nat_lt (net.stage (net.lane q)) (net.stage (net.lane z)) ≡ b → implies b (can_end net r (lane_from net k q)) ≡ true
            go true e = ends_no net r (lane_from net k q) (closed_at q l h) (by.ends (net.lane q) (grind (arith, nat_tests)))
            go false e = refl

    pub next_in : AreNext net r k (nexts_at net r k)
    next_in = record {
      ascending = union_rises (filter (is_next net r k) (points_in net)) [] rises_nil;
      sound = λ z i. ⊎_elim (λ j. next_yes z (of_filter (is_next net r k) z (points_in net) j).1) (λ none. absurd none) (union_only z (filter (is_next net r k) (points_in net)) [] i);
      complete = λ z n.
          let t = next_in_text net roles r k z proper n in
          union_left z (filter (is_next net r k) (points_in net)) [] (in_filter (is_next net r k) z (points_in net) (from_in z (points_in net) (in_range 1 net.count z t.0 (omega (arith, t.1)))) (next_no z t.0 t.1 n));
    }
