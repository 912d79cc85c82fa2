-- What can come from a place on, lane by lane: its own lane, and those of later stages as long as each lane before them ends.
use Rattle.std.proofs.Common.{◌≡◌, ℕ, ◌+◌, ◌<◌, ◌≤◌, Bool, true, false, List, [], ◌∷◌, refl, sym, ◌∙◌, ap, subst, ◌⊎◌, inl, inr, ⊎_elim, arith}
use Rattle.std.specs.Prelude.{◌↔◌, IsTrue}
use Rattle.std.proofs.lemmas.Bool.{cases_Bool, cases_eq, cases_lt}
use Rattle.rcv_model.specs.Net.{Net, IsIn, opened, IsLaneWalk, last_of}
use Rattle.rcv_model.specs.Next.{IsProper}
use Rattle.rcv_model.proofs.Walks.{opened_here, opened_later, opened_none}
use Rattle.rcv_model.proofs.Lanes.{IsLaned, opened_laned}
use Rattle.rcv_model.proofs.Parted.{by_lanes, of_lanes, end_by_lanes, end_of_lanes}
use Rattle.rcv_points.specs.Ahead.{MayEnd, MayComeTo, IsReach, IsLaneReach}
use Rattle.rcv_points.specs.LaneSearch.{CanCome, CanEndPast, EndsBehind, ComesBehind, ReachedSoFar}
use Rattle.rcv_points.proofs.LaneReaching.{to_lane, of_lane, to_end, of_end}

-- The stages of lanes rise, each place has its lane among them, and no other lane begins with anything.
pub record AreLanes (net : Net) (lanes : ℕ) : Type 0 where
  pub rising : (l m : ℕ) → l ≤ m → m < lanes → net.stage l ≤ net.stage m
  pub there : (k : ℕ) → net.lane k < lanes
  pub beyond : (l : ℕ) → lanes ≤ l → net.begins l ≡ []

not_both : {b : Bool} → b ≡ false → b ≡ true → ⊥
not_both f t = let e = sym f ∙ t in cc

module _ (net : Net) (roles r k lanes : ℕ) (proper : IsProper net roles) (are : AreLanes net lanes) where
  -- lanes that are shut, and those that there aren't
  past : (l : ℕ) → lanes ≤ l → EndsBehind net r k l
  past l le = inl (go (cases_lt (net.stage (net.lane k)) (net.stage l)))
    where
      n : l ≡ net.lane k → ⊥
      n e = let lt = are.there k in omega (arith, e, le, lt)

      go : (net.stage (net.lane k) < net.stage l) ⊎ (net.stage l ≤ net.stage (net.lane k)) → opened net k l ≡ []
      go (inl lt) = opened_later net k l n lt ∙ are.beyond l le
      go (inr ge) = opened_none net k l n (λ lt. omega (arith, ge, lt))

  -- a way stays in its lane
  along : (x : ℕ) (v : List ℕ) → IsLaneWalk net x v → net.lane (last_of x v) ≡ net.lane x
  along x [] walk = refl
  along x (y ∷ v) walk = along y v walk.1 ∙ proper.lanes.kept x y walk.0

  in_its_lane : (l z : ℕ) → CanCome net r (opened net k l) z → net.lane z ≡ l
  in_its_lane l z (inl i) = (opened_laned net roles k proper).lane l z i
  in_its_lane l z (inr a) =
      let s = a.1.0 in
      let w = a.1.2 in
      proper.lanes.kept a.0 z a.2 ∙ ap net.lane (sym w.3) ∙ along s w.0 w.1 ∙ (opened_laned net roles k proper).lane l s a.1.1.0

  of_lane_to : (l z : ℕ) → CanCome net r (opened net k l) z → ((j : ℕ) → net.stage j < net.stage l → EndsBehind net r k j) → ComesBehind net r k z
  of_lane_to l z t ends = record {
    own = subst (λ m. CanCome net r (opened net k m) z) (sym (in_its_lane l z t)) t;
    ends = λ j lt. ends j (subst (λ m. net.stage j < net.stage m) (in_its_lane l z t) lt);
  }

  none_come : (z : ℕ) → CanCome net r [] z → ⊥
  none_come z (inl i) = i
  none_come z (inr a) = a.1.1.0

  not_shut : (l z : ℕ) → opened net k l ≡ [] → net.lane z ≡ l → ComesBehind net r k z → ⊥
  not_shut l z e at' c = none_come z (subst (λ ps. CanCome net r ps z) e (subst (λ m. CanCome net r (opened net k m) z) at' c.own))

  -- The own lane.
  pub own_reached : (come : List ℕ) (ends : Bool) → IsLaneReach net r (net.offers k) come ends → ReachedSoFar net r k (net.lane k + 1) come ends (net.stage (net.lane k))
  own_reached come ends reach = record {
    sound = λ z i. of_lane_to (net.lane k) z (subst (λ ps. CanCome net r ps z) (sym here') ((reach.all z).0 i)) earlier;
    complete = λ z lt c. ⊎_elim
        (λ e. (reach.all z).1 (subst (λ ps. CanCome net r ps z) here' (subst (λ m. CanCome net r (opened net k m) z) e c.own)))
        (λ n. absurd (not_shut (net.lane z) z (front (net.lane z) (omega (arith, lt, n))) refl c))
        (cases_eq (net.lane z) (net.lane k));
    all_end = λ t l lt. ⊎_elim
        (λ e. subst (EndsBehind net r k) (sym e) (subst (CanEndPast net r) (sym here') (reach.end.0 t)))
        (λ n. inl (front l (omega (arith, lt, n))))
        (cases_eq l (net.lane k));
    stuck = λ f. (net.lane k, omega arith, refl, λ e. not_both f (reach.end.1 (subst (CanEndPast net r) here' e)));
    before = λ f l lt less. ⊎_elim (λ e. absurd (omega (arith, less, ap net.stage e))) (λ n. inl (front l (omega (arith, lt, n)))) (cases_eq l (net.lane k));
  }
    where
      here' : opened net k (net.lane k) ≡ net.offers k
      here' = opened_here net k (net.lane k) refl

      front : (l : ℕ) → l < net.lane k → opened net k l ≡ []
      front l lt = opened_none net k l (λ e. omega (arith, lt, e)) (λ less. let le = are.rising l (net.lane k) (omega (arith, lt)) (are.there k) in omega (arith, less, le))

      earlier : (j : ℕ) → net.stage j < net.stage (net.lane k) → EndsBehind net r k j
      earlier j lt = inl (opened_none net k j (λ e. omega (arith, lt, ap net.stage e)) (λ less. omega (arith, lt, less)))

  -- lanes of earlier stages end, where this one is searched
  earlier_end : (lane : ℕ) (come : List ℕ) (ends : Bool) (last : ℕ) → lane < lanes → (ends ≡ true) ⊎ (net.stage lane ≤ last) → ReachedSoFar net r k lane come ends last → (j : ℕ) → net.stage j < net.stage lane → EndsBehind net r k j
  earlier_end lane come ends last in_text free s j lt = go (cases_lt j lane) (cases_Bool ends) free
    where
      go : (j < lane) ⊎ (lane ≤ j) → (ends ≡ true) ⊎ (ends ≡ false) → (ends ≡ true) ⊎ (net.stage lane ≤ last) → EndsBehind net r k j
      go (inl less) (inl t) o = s.all_end t j less
      go (inl less) (inr f) (inl t) = absurd (not_both f t)
      go (inl less) (inr f) (inr le) = s.before f j less (omega (arith, lt, le))
      go (inr ge) d o = ⊎_elim (λ inside. absurd (let le = are.rising lane j ge inside in omega (arith, lt, le))) (λ out. past j out) (cases_lt j lanes)

  -- a lane that is searched, of a later stage than the place's own
  module _ (lane : ℕ) (come next new : List ℕ) (ends next_ends : Bool) (last : ℕ) (behind : net.lane k < lane) (in_text : lane < lanes) (later : net.stage (net.lane k) < net.stage lane) (reach : IsLaneReach net r (net.begins lane) next next_ends) (both : (z : ℕ) → IsIn z new ↔ (IsIn z come ⊎ IsIn z next)) (s : ReachedSoFar net r k lane come ends last) where
    fresh : opened net k lane ≡ net.begins lane
    fresh = opened_later net k lane (λ e. omega (arith, behind, e)) later

    sound' : (ends ≡ true) ⊎ (net.stage lane ≤ last) → (z : ℕ) → IsIn z new → ComesBehind net r k z
    sound' free z i = ⊎_elim
        (λ m. s.sound z m)
        (λ m. of_lane_to lane z (subst (λ ps. CanCome net r ps z) (sym fresh) ((reach.all z).0 m)) (earlier_end lane come ends last in_text free s))
        ((both z).0 i)

    complete' : (z : ℕ) → net.lane z < lane + 1 → ComesBehind net r k z → IsIn z new
    complete' z lt c = ⊎_elim
        (λ e. (both z).1 (inr ((reach.all z).1 (subst (λ ps. CanCome net r ps z) fresh (subst (λ m. CanCome net r (opened net k m) z) e c.own)))))
        (λ n. (both z).1 (inl (s.complete z (omega (arith, lt, n)) c)))
        (cases_eq (net.lane z) lane)

    pub lane_open : ends ≡ true → ReachedSoFar net r k (lane + 1) new next_ends (net.stage lane)
    lane_open free = record {
      sound = sound' (inl free);
      complete = complete';
      all_end = λ t l lt. ⊎_elim
          (λ e. subst (EndsBehind net r k) (sym e) (subst (CanEndPast net r) (sym fresh) (reach.end.0 t)))
          (λ n. s.all_end free l (omega (arith, lt, n)))
          (cases_eq l lane);
      stuck = λ f. (lane, omega arith, refl, λ e. not_both f (reach.end.1 (subst (CanEndPast net r) fresh e)));
      before = λ f l lt less. ⊎_elim (λ e. absurd (omega (arith, less, ap net.stage e))) (λ n. s.all_end free l (omega (arith, lt, n))) (cases_eq l lane);
    }

    pub lane_beside : ends ≡ false → net.stage lane ≤ last → ReachedSoFar net r k (lane + 1) new false last
    lane_beside f le = record {
      sound = sound' (inr le);
      complete = complete';
      all_end = λ t. absurd (not_both refl t);
      stuck = λ g. let a = s.stuck f in (a.0, (let lt = a.1 in omega (arith, lt)), a.2, a.3);
      before = λ g l lt less. ⊎_elim
          (λ e. let a = s.stuck f in absurd (let up = are.rising a.0 lane (let below = a.1 in omega (arith, below)) in_text in omega (arith, less, ap net.stage e, a.2, up)))
          (λ n. s.before f l (omega (arith, lt, n)) less)
          (cases_eq l lane);
    }

  -- a lane that isn't: it is shut, or stands behind one that can't end
  pub lane_skipped : (lane : ℕ) (come : List ℕ) (ends : Bool) (last : ℕ) → net.lane k < lane → lane < lanes → (net.stage (net.lane k) < net.stage lane → (ends ≡ true) ⊎ (net.stage lane ≤ last) → ⊥) → ReachedSoFar net r k lane come ends last → ReachedSoFar net r k (lane + 1) come ends last
  lane_skipped lane come ends last behind in_text skips s = record {
    sound = s.sound;
    complete = λ z lt c. ⊎_elim (λ e. absurd (not_here z e c)) (λ n. s.complete z (omega (arith, lt, n)) c) (cases_eq (net.lane z) lane);
    all_end = λ t l lt. ⊎_elim (λ e. subst (EndsBehind net r k) (sym e) (inl (is_shut (λ later. skips later (inl t))))) (λ n. s.all_end t l (omega (arith, lt, n))) (cases_eq l lane);
    stuck = λ f. let a = s.stuck f in (a.0, (let lt = a.1 in omega (arith, lt)), a.2, a.3);
    before = λ f l lt less. ⊎_elim
        (λ e. let a = s.stuck f in absurd (let up = are.rising a.0 lane (let below = a.1 in omega (arith, below)) in_text in omega (arith, less, ap net.stage e, a.2, up)))
        (λ n. s.before f l (omega (arith, lt, n)) less)
        (cases_eq l lane);
  }
    where
      is_shut : (net.stage (net.lane k) < net.stage lane → ⊥) → opened net k lane ≡ []
      is_shut n = opened_none net k lane (λ e. omega (arith, behind, e)) n

      not_here : (z : ℕ) → net.lane z ≡ lane → ComesBehind net r k z → ⊥
      not_here z e c = ⊎_elim (λ later. go later (cases_Bool ends)) (λ ge. not_shut lane z (is_shut (λ lt. omega (arith, ge, lt))) e c) (cases_lt (net.stage (net.lane k)) (net.stage lane))
        where
          go : net.stage (net.lane k) < net.stage lane → (ends ≡ true) ⊎ (ends ≡ false) → ⊥
          go later (inl t) = skips later (inl t)
          go later (inr f) = ⊎_elim
              (λ lt. let a = s.stuck f in a.3 (c.ends a.0 (omega (arith, lt, a.2, ap net.stage e))))
              (λ le. skips later (inr le))
              (cases_lt last (net.stage lane))

  -- All lanes were searched.
  pub all_reached : (lane : ℕ) (come : List ℕ) (ends : Bool) (last : ℕ) → lanes ≤ lane → ReachedSoFar net r k lane come ends last → IsReach net r k come ends
  all_reached lane come ends last le s = record { all = λ z. (to z, of z); end = (to_ends (cases_Bool ends), of_ends (cases_Bool ends)) }
    where
      laned : IsLaned net (opened net k)
      laned = opened_laned net roles k proper

      to : (z : ℕ) → IsIn z come → MayComeTo net r k z
      to z i =
          let b = s.sound z i in
          let c = of_lanes net roles proper r (opened net k) z laned (record { lane = to_lane net r (opened net k (net.lane z)) z b.own; ends = λ l lt. to_end net r (opened net k l) (b.ends l lt) }) in
          (c.way, c.walk, c.none)

      of : (z : ℕ) → MayComeTo net r k z → IsIn z come
      of z a =
          let c = by_lanes net roles proper r (opened net k) z (record { way = a.0; walk = a.1; none = a.2 }) in
          s.complete z (let lt = are.there z in omega (arith, lt, le)) (record { own = of_lane net r (opened net k (net.lane z)) z c.lane; ends = λ l lt. of_end net r (opened net k l) (c.ends l lt) })

      to_ends : (ends ≡ true) ⊎ (ends ≡ false) → IsTrue ends → MayEnd net r k
      to_ends (inr f) t = absurd (not_both f t)
      to_ends (inl e) t =
          let c = end_of_lanes net roles proper r (opened net k) laned (λ q low high. to_end net r (opened net k (net.lane q)) (s.all_end e (net.lane q) (let lt = are.there q in omega (arith, lt, le)))) in
          (c.way, c.walk, c.ended, c.none)

      of_ends : (ends ≡ true) ⊎ (ends ≡ false) → MayEnd net r k → IsTrue ends
      of_ends (inl t) a = t
      of_ends (inr f) a = let b = s.stuck f in absurd (b.3 (of_end net r (opened net k b.0) (end_by_lanes net roles proper r (opened net k) (record { way = a.0; walk = a.1; none = a.3; ended = a.2 }) b.0)))
