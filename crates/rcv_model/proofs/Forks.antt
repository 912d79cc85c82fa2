-- Where the walk of a run goes another way at the choice of a role that sends at all its next points: no role that has a point on
-- either way has gone on.
use Rattle.std.proofs.Common.{◌≡◌, ℕ, ◌<◌, ◌≤◌, Some, List, [], ◌∷◌, ◌++◌, length, refl, sym, ◌∙◌, ap, subst, ◌⊎◌, inl, inr, ⊎_elim, append_assoc, append-nil, arith, length-append, eq-eqb}
use Rattle.std.specs.Prelude.{◌↔◌}
use Rattle.std.specs.List.{filter_map, cons_option}
use Rattle.std.proofs.lemmas.Bool.{cases_eq, cases_lt}
use Rattle.std.proofs.lemmas.Bool.Decides.{nat_tests}
use Rattle.std.proofs.lemmas.List.Elements.{filter_map-append}
use Rattle.rcv_tree.specs.declared.event.Event.{Event}
use Rattle.rcv_tree.specs.declared.event.Dir.TheVariants.{Got}
use Rattle.rcv_model.specs.Net.{Net, IsIn, opened, MayCome, left_by, IsWalk, IsLaneWalk, IsPrefix, last_of}
use Rattle.rcv_model.specs.Run.{Act, act_of, acts, part, place_of, put, taken, is_sent, IsRunOf}
use Rattle.rcv_model.specs.Next.{IsOf, HasNone, IsNext, met_by, seen_by, Chain, here, on, IsPlaceOf, IsProper, IsAccepted}
use Rattle.rcv_model.proofs.Lists.{prefix_trans, prefix_map, prefix_shorter, prefix_length, prefix_drop, whole_prefix}
use Rattle.rcv_model.proofs.Keeping.{put_none}
use Rattle.rcv_model.proofs.Walks.{come_join, come_back, walk_front, lane_back}
use Rattle.rcv_model.proofs.Lanes.{IsLaned, left_laned, opened_laned, walk_in_text, no_return}
use Rattle.rcv_model.proofs.Views.{IsOwnLane, seen, seen_nil, seen_yes, seen_join, seen_none_of, Sees, sees_opened, SeesWalk, sees_walk, sees_met}
use Rattle.rcv_model.proofs.Completing.{ComesInLane, comes_in_lane, in_both}
use Rattle.rcv_model.proofs.Ways.{LastOwn, never, last, last_own, point_is_next, stands, next_in_text}
use Rattle.rcv_model.proofs.Parts.{part_join, part_none, First, first, at, last_more, last_join, none_at, IsKind, Head, head, acts_own, acts_other}
use Rattle.rcv_model.proofs.Parts.{never as has_none}
use Rattle.rcv_model.proofs.Crossing.{sent_to, got_from, point_of, points, crossing, put_points, taken_points, part_sent, part_got}

-- each place on the way offers the next point alone, and it isn't one of r
abbrev pub IsForced : Net → ℕ → ℕ → List ℕ → Type 0
IsForced net r k [] = Unit {0}
IsForced net r k (p ∷ u) = (net.offers k ≡ p ∷ []) × (IsOf net r p → ⊥) × IsForced net r p u

forced_more : (net : Net) (r k p : ℕ) (u : List ℕ) → IsForced net r k u → net.offers (last_of k u) ≡ p ∷ [] → (IsOf net r p → ⊥) → IsForced net r k (u ++ p ∷ [])
forced_more net r k p [] f e n = (e, n, tt)
forced_more net r k p (x ∷ u) f e n = (f.0, f.1, forced_more net r x p u f.2 e n)

-- the way of a chain
pub chain_way : (net : Net) (r k j : ℕ) → Chain net r k j → (u : List ℕ) × IsForced net r k u × (last_of k u ≡ j)
chain_way net r k j here = ([], tt, refl)
chain_way net r k j (on c e n) =
    let w = chain_way net r k _ c in
    (w.0 ++ j ∷ [], forced_more net r k j w.0 w.1 (ap net.offers w.2 ∙ e) n, last_more k j w.0)

pub forced_walk : (net : Net) (r k : ℕ) (u : List ℕ) → IsForced net r k u → IsLaneWalk net k u
forced_walk net r k [] f = tt
forced_walk net r k (p ∷ u) f = (subst (IsIn p) (sym f.0) (inl refl), forced_walk net r p u f.2)

pub forced_none : (net : Net) (r k : ℕ) (u : List ℕ) → IsForced net r k u → HasNone net r u
forced_none net r k [] f = tt
forced_none net r k (p ∷ u) f = (f.1, forced_none net r p u f.2)

only_one : (p q : ℕ) (xs : List ℕ) → xs ≡ q ∷ [] → IsIn p xs → p ≡ q
only_one p q xs e i = go (subst (IsIn p) e i)
  where
    go : IsIn p (q ∷ []) → p ≡ q
    go (inl f) = f
    go (inr f) = absurd f

-- a walk beside a forced way is a beginning of it, or goes on behind it
pub beside_way : (net : Net) (r k : ℕ) (u v : List ℕ) → IsForced net r k u → IsLaneWalk net k v → IsPrefix v u ⊎ ((z : ℕ) × (rest : List ℕ) × (u ++ z ∷ rest ≡ v))
beside_way net r k [] [] f w = inl ([], refl)
beside_way net r k [] (z ∷ rest) f w = inr (z, rest, refl)
beside_way net r k (p ∷ u) [] f w = inl (p ∷ u, refl)
beside_way net r k (p ∷ u) (q ∷ v) f w =
    let e : q ≡ p = only_one q p (net.offers k) f.0 w.0 in
    ⊎_elim
    (λ x. inl (x.0, ap (λ l. q ∷ l) x.1 ∙ ap (λ n. n ∷ u) e))
    (λ x. inr (x.0, x.1, ap (λ l. p ∷ l) x.2 ∙ ap (λ n. n ∷ v) (sym e)))
    (beside_way net r p u v f.2 (subst (λ n. IsLaneWalk net n v) e w.1))

forced_at : (net : Net) (q k t : ℕ) (b m : List ℕ) → IsForced net q k (b ++ t ∷ m) → net.offers (last_of k b) ≡ t ∷ []
forced_at net q k t [] m f = f.0
forced_at net q k t (p ∷ b) m f = forced_at net q p t b m f.2

pub lane_walk_join : (net : Net) (k : ℕ) (u v : List ℕ) → IsLaneWalk net k u → IsLaneWalk net (last_of k u) v → IsLaneWalk net k (u ++ v)
lane_walk_join net k [] v a b = b
lane_walk_join net k (p ∷ u) v a b = (a.0, lane_walk_join net p u v a.1 b)

-- a walk, cut behind the last point of a role in its beginning: what the role sees behind that
pub record Stands (net : Net) (r : ℕ) (a : List ℕ) (proper_ : ℕ) : Type 0 where
  pub front : List ℕ
  pub back : List ℕ
  pub whole : front ++ back ≡ a
  pub did : part net r front ≡ part net r a
  pub clear : HasNone net r back
  pub stop : last_of 0 (seen net r front) ≡ place_of 0 (part net r a)

pub stands_at : (net : Net) (roles r : ℕ) (a : List ℕ) → IsProper net roles → IsWalk net 0 a → Stands net r a roles
stands_at net roles r a proper walk = go (last_own net r a)
  where
    go : LastOwn net r a → Stands net r a roles
    go (never h e) = record { front = []; back = a; whole = refl; did = sym (part_none net r a h); clear = h; stop = ap (last_of 0) (seen_nil net r) ∙ sym e }
    go (last before k after e own h at') = record {
      front = before ++ k ∷ [];
      back = after;
      whole = append_assoc before (k ∷ []) after ∙ e;
      did = sym (append-nil _) ∙ ap (λ l. part net r (before ++ k ∷ []) ++ l) (sym (part_none net r after h)) ∙ sym (part_join net r (before ++ k ∷ []) after) ∙ ap (part net r) (append_assoc before (k ∷ []) after ∙ e);
      clear = h;
      stop = ap (last_of 0) (seen_join net r before (k ∷ []) ∙ ap (λ l. seen net r before ++ l) (seen_yes net r k [] own_k ∙ ap (λ l. k ∷ l) (seen_nil net r))) ∙ last_more 0 k (seen net r before) ∙ sym (at' 0);
    }
      where
        text : (1 ≤ k) × (k ≤ net.count)
        text = walk_in_text net roles 0 k before after proper (subst (IsWalk net 0) (sym e) walk)

        own_k : IsOwnLane net r (net.lane k)
        own_k = record { point = k; least = text.0; most = text.1; own = own; lane = refl }

-- what a role sees of a walk behind where it stands
record SeesBack (net : Net) (r : ℕ) (a : List ℕ) : Type 0 where
  way : List ℕ
  walk : IsLaneWalk (seen_by net r) (place_of 0 (part net r a)) way
  clear : HasNone net r way
  sees : Sees net r (left_by net (opened net 0) a) (last_of (place_of 0 (part net r a)) way)

sees_back : (net : Net) (roles r : ℕ) (a : List ℕ) → IsProper net roles → IsWalk net 0 a → SeesBack net r a
sees_back net roles r a proper walk = record {
  way = seen net r c.back;
  walk = subst (λ n. IsLaneWalk (seen_by net r) n (seen net r c.back)) c.stop (lane_back (seen_by net r) 0 (seen net r c.front) (seen net r c.back) (subst (IsLaneWalk (seen_by net r) 0) split whole.way));
  clear = seen_none_of net r r c.back c.clear;
  sees = subst (Sees net r (left_by net (opened net 0) a)) (ap (last_of 0) split ∙ last_join 0 (seen net r c.front) (seen net r c.back) ∙ ap (λ n. last_of n (seen net r c.back)) c.stop) whole.sees;
}
  where
    c : Stands net r a roles
    c = stands_at net roles r a proper walk

    whole : SeesWalk net roles r proper (opened net 0) 0 a
    whole = sees_walk net roles r proper (opened net 0) 0 a (opened_laned net roles 0 proper) walk (sees_opened net r proper.lanes)

    split : seen net r a ≡ seen net r c.front ++ seen net r c.back
    split = ap (seen net r) (sym c.whole) ∙ seen_join net r c.front c.back

-- no Recv can come where the receiver has received all that its sender can have sent
no_recv : (net : Net) (a : List ℕ) (front : List Event) (e : Event) → IsPrefix (acts (net.sender e.point) front) (part net (net.sender e.point) a) → acts e.role front ≡ part net e.role a → e.dir ≡ Got → (net.sender e.point ≡ e.role → ⊥) → IsPrefix (taken net (net.sender e.point) e.role (front ++ e ∷ [])) (put net (net.sender e.point) e.role (front ++ e ∷ [])) → ⊥
no_recv net a front e within all d n q =
    let s = net.sender e.point in
    let sent = ap is_sent d in
    let last' : got_from net s (record { dir = e.dir; point = e.point }) ≡ Some e.point = (let b = eq-eqb s s refl in grind (arith, nat_tests)) in
    let got : points (taken net s e.role (front ++ e ∷ [])) ≡ crossing net s e.role a ++ e.point ∷ [] =
    taken_points net s e.role (front ++ e ∷ []) ∙ ap (filter_map (got_from net s)) (acts_own front e) ∙ filter_map-append (got_from net s) (acts e.role front) _ ∙ ap (λ l. filter_map (got_from net s) l ++ filter_map (got_from net s) (record { dir = e.dir; point = e.point } ∷ [])) all ∙ ap (λ l. l ++ filter_map (got_from net s) (record { dir = e.dir; point = e.point } ∷ [])) (part_got net s e.role a n) ∙ ap (λ o. crossing net s e.role a ++ cons_option o []) last' in
    let no_put : put net s e.role (front ++ e ∷ []) ≡ put net s e.role front = put_none net s e.role front e (grind (arith, nat_tests)) in
    let most : IsPrefix (points (put net s e.role (front ++ e ∷ []))) (crossing net s e.role a) = subst (λ l. IsPrefix l (crossing net s e.role a)) (sym (ap points no_put ∙ put_points net s e.role front)) (subst (IsPrefix (filter_map (sent_to net e.role) (acts s front))) (part_sent net s e.role a) (prefix_map (sent_to net e.role) _ _ within)) in
    let over : IsPrefix (crossing net s e.role a ++ e.point ∷ []) (crossing net s e.role a) = subst (λ l. IsPrefix l (crossing net s e.role a)) got (prefix_trans _ _ _ (prefix_map point_of _ _ q) most) in
    omega (arith, prefix_length _ _ over, length-append (crossing net s e.role a) (e.point ∷ []))

-- The walk of a run, cut where role r has two points to choose from: x follows in it, and z could, with the way on within their
-- lane.
pub record Fork (net : Net) (roles : ℕ) (w : List ℕ) (h : List Event) (r x z : ℕ) (a v on_ : List ℕ) : Type 0 where
  pub proper : IsProper net roles
  pub accepted : IsAccepted net roles
  pub run : IsRunOf net w h
  pub whole : a ++ x ∷ v ≡ w
  pub waits : acts r h ≡ part net r a
  pub mine : net.sender x ≡ r
  pub may : MayCome net (left_by net (opened net 0) a) z
  pub beside : net.lane z ≡ net.lane x
  pub differ : x ≡ z → ⊥
  pub way : IsLaneWalk net z on_

-- a role with a point on either way: in the lane behind x, or behind z
abbrev pub IsAtStake : Net → ℕ → List ℕ → ℕ → List ℕ → ℕ → Type 0
IsAtStake net x v z on_ q = (t : ℕ) × IsOf net q t × ((IsIn t (x ∷ v) × (net.lane t ≡ net.lane x)) ⊎ IsIn t (z ∷ on_))

-- where an item stands in a list
pub split_at : (t : ℕ) (xs : List ℕ) → IsIn t xs → (b : List ℕ) × (c : List ℕ) × (b ++ t ∷ c ≡ xs)
split_at t [] i = absurd i
split_at t (y ∷ ys) (inl e) = ([], ys, ap (λ n. n ∷ ys) e)
split_at t (y ∷ ys) (inr i) = let s = split_at t ys i in (y ∷ s.0, s.1, ap (λ l. y ∷ l) s.2)

module _ (net : Net) (roles : ℕ) (w : List ℕ) (h : List Event) (r x z : ℕ) (a v on_ : List ℕ) (fork : Fork net roles w h r x z a v on_) where
  all_walk : IsWalk net 0 (a ++ x ∷ v)
  all_walk = subst (IsWalk net 0) (sym fork.whole) fork.run.walk

  walk_a : IsWalk net 0 a
  walk_a = walk_front net 0 a (x ∷ v) all_walk

  may_x : MayCome net (left_by net (opened net 0) a) x
  may_x = (come_back net (opened net 0) a (x ∷ v) all_walk).0

  laned : IsLaned net (left_by net (opened net 0) a)
  laned = left_laned net roles (opened net 0) a fork.proper (opened_laned net roles 0 fork.proper)

  comes : ComesInLane net (left_by net (opened net 0) a) z on_
  comes = comes_in_lane net roles (left_by net (opened net 0) a) z on_ fork.proper fork.may fork.way

  other_walk : IsWalk net 0 (a ++ z ∷ on_)
  other_walk = come_join net (opened net 0) a (z ∷ on_) walk_a comes.walk

  -- points on either way are in the lane, and in the text
  stake_lane : (q : ℕ) → IsAtStake net x v z on_ q → IsOwnLane net q (net.lane x)
  stake_lane q (t, own, inl i) =
      let s = split_at t (x ∷ v) i.0 in
      let text = walk_in_text net roles 0 t (a ++ s.0) s.1 fork.proper (subst (IsWalk net 0) (ap (λ l. a ++ l) (sym s.2) ∙ sym (append_assoc a s.0 (t ∷ s.1))) all_walk) in
      record { point = t; least = text.0; most = text.1; own = own; lane = i.1 }
  stake_lane q (t, own, inr i) =
      let s = split_at t (z ∷ on_) i in
      let text = walk_in_text net roles 0 t (a ++ s.0) s.1 fork.proper (subst (IsWalk net 0) (ap (λ l. a ++ l) (sym s.2) ∙ sym (append_assoc a s.0 (t ∷ s.1))) other_walk) in
      record { point = t; least = text.0; most = text.1; own = own; lane = comes.lane t i ∙ fork.beside }

  place : ℕ → ℕ
  place q = place_of 0 (part net q a)

  stood : (q : ℕ) → IsPlaceOf net q (place q)
  unfolding place
  stood q = stands net roles q a (x ∷ v) fork.proper all_walk

  next_behind : (q y : ℕ) (before after : List ℕ) → before ++ y ∷ after ≡ x ∷ v → HasNone net q before → IsOf net q y → IsNext net q (place q) y
  unfolding place
  next_behind q y before after e clear own = point_is_next net roles q y a before after fork.proper (subst (λ l. IsWalk net 0 (a ++ l)) (sym e) all_walk) clear own

  next_aside : (q t : ℕ) (before after : List ℕ) → before ++ t ∷ after ≡ z ∷ on_ → HasNone net q before → IsOf net q t → IsNext net q (place q) t
  unfolding place
  next_aside q t before after e clear own = point_is_next net roles q t a before after fork.proper (subst (λ l. IsWalk net 0 (a ++ l)) (sym e) other_walk) clear own

  declared : (q y : ℕ) → IsOf net q y → (1 ≤ y) × (y ≤ net.count) → q < roles
  declared q y (inl e) text = subst (λ n. n < roles) e (fork.proper.senders y text.0 text.1)
  declared q y (inr e) text = subst (λ n. n < roles) e (fork.proper.receivers y text.0 text.1)

  -- no next act of another role at stake is a Send
  no_send : (q y : ℕ) → (q ≡ r → ⊥) → IsAtStake net x v z on_ q → IsNext net q (place q) y → net.sender y ≡ q → ⊥
  unfolding place
  no_send q y n stake next sent = both (beside_way (seen_by net q) q (place_of 0 (part net q a)) cw.0 back.way cw.1 back.walk)
    where
      lt : q < roles
      lt = declared q y (inl sent) (next_in_text net roles q (place_of 0 (part net q a)) y fork.proper next)

      all_send : (t : ℕ) → IsNext net q (place_of 0 (part net q a)) t → net.sender t ≡ q
      all_send t m = ⊎_elim (λ g. g) (λ g. absurd (fork.accepted.unmixed q (place_of 0 (part net q a)) y t lt (stood q) next m sent g)) m.own

      en : (j : ℕ) × Chain (seen_by net q) q (place_of 0 (part net q a)) j × ((t : ℕ) → IsIn t (met_by net q j) ↔ IsNext net q (place_of 0 (part net q a)) t)
      en = fork.accepted.enabled q (place_of 0 (part net q a)) y lt (stood q) next all_send

      cw : (u : List ℕ) × IsForced (seen_by net q) q (place_of 0 (part net q a)) u × (last_of (place_of 0 (part net q a)) u ≡ en.0)
      cw = chain_way (seen_by net q) q (place_of 0 (part net q a)) en.0 en.1

      back : SeesBack net q a
      back = sees_back net roles q a fork.proper walk_a

      there : ℕ
      there = last_of (place_of 0 (part net q a)) back.way

      meets_x : IsIn x (met_by net q (last_of (place_of 0 (part net q a)) back.way))
      meets_x = sees_met net roles q fork.proper _ x (left_by net (opened net 0) a) may_x (stake_lane q stake) back.sees

      meets_z : IsIn z (met_by net q (last_of (place_of 0 (part net q a)) back.way))
      meets_z = sees_met net roles q fork.proper _ z (left_by net (opened net 0) a) fork.may (subst (IsOwnLane net q) (sym fork.beside) (stake_lane q stake)) back.sees

      both : IsPrefix back.way cw.0 ⊎ ((t : ℕ) × (rest : List ℕ) × (cw.0 ++ t ∷ rest ≡ back.way)) → ⊥
      both (inr g) =
          let to = lane_back (seen_by net q) (place_of 0 (part net q a)) cw.0 (g.0 ∷ g.1) (subst (IsLaneWalk (seen_by net q) (place_of 0 (part net q a))) (sym g.2) back.walk) in
          let m = (en.2 g.0).0 (subst (λ k. IsIn g.0 (met_by net q k)) cw.2 to.0) in
          none_at net q g.0 cw.0 g.1 (subst (HasNone net q) (sym g.2) back.clear) m.own
      both (inl g) = ends g.0 g.1
        where
          ends : (m : List ℕ) → back.way ++ m ≡ cw.0 → ⊥
          ends [] g =
              let j : last_of (place_of 0 (part net q a)) back.way ≡ en.0 = ap (last_of (place_of 0 (part net q a))) (sym (append-nil _) ∙ g) ∙ cw.2 in
              let m = (en.2 x).0 (subst (λ k. IsIn x (met_by net q k)) j meets_x) in
              n (sym (all_send x m) ∙ fork.mine)
          ends (t ∷ m) g =
              let alone : met_by net q (last_of (place_of 0 (part net q a)) back.way) ≡ t ∷ [] = forced_at (seen_by net q) q (place_of 0 (part net q a)) t back.way m (subst (IsForced (seen_by net q) q (place_of 0 (part net q a))) (sym g) cw.1) in
              fork.differ (only_one x t _ alone meets_x ∙ sym (only_one z t _ alone meets_z))

  -- the sender of what a role at stake receives next is at stake, too
  sender_at_stake : (q y : ℕ) (before after : List ℕ) → IsAtStake net x v z on_ q → before ++ y ∷ after ≡ x ∷ v → HasNone net q before → net.receiver y ≡ q → IsAtStake net x v z on_ (net.sender y)
  unfolding place
  sender_at_stake q y before after stake e clear got = ⊎_elim in_lane aside (cases_eq (net.lane y) (net.lane x))
    where
      is_here : (before : List ℕ) (xs : List ℕ) → before ++ y ∷ after ≡ xs → IsIn y xs
      is_here [] xs f = subst (IsIn y) f (inl refl)
      is_here (b ∷ bs) xs f = subst (IsIn y) f (inr (is_here bs (bs ++ y ∷ after) refl))

      in_lane : net.lane y ≡ net.lane x → IsAtStake net x v z on_ (net.sender y)
      in_lane f = (y, inl refl, inl (is_here before (x ∷ v) e, f))

      aside : (net.lane y ≡ net.lane x → ⊥) → IsAtStake net x v z on_ (net.sender y)
      aside n = choose stake
        where
          walk_y : IsWalk net 0 (a ++ (before ++ y ∷ after))
          walk_y = subst (λ l. IsWalk net 0 (a ++ l)) (sym e) all_walk

          text_y : (1 ≤ y) × (y ≤ net.count)
          text_y = walk_in_text net roles 0 y (a ++ before) after fork.proper (subst (IsWalk net 0) (sym (append_assoc a before (y ∷ after))) walk_y)

          lane_q : IsOwnLane net q (net.lane x)
          lane_q = stake_lane q stake

          lane_y : IsOwnLane net q (net.lane y)
          lane_y = record { point = y; least = text_y.0; most = text_y.1; own = inr got; lane = refl }

          apart : net.stage (net.lane y) ≡ net.stage (net.lane x) → ⊥
          apart f = n (sym lane_y.lane ∙ fork.proper.lanes.one_lane q lane_y.point lane_q.point lane_y.least lane_y.most lane_q.least lane_q.most lane_y.own lane_q.own (ap net.stage lane_y.lane ∙ f ∙ sym (ap net.stage lane_q.lane)) ∙ lane_q.lane)

          choose : IsAtStake net x v z on_ q → IsAtStake net x v z on_ (net.sender y)
          choose (t, own, inr i) = go (first net q (z ∷ on_))
            where
              go : First net q (z ∷ on_) → IsAtStake net x v z on_ (net.sender y)
              go (has_none k) = let s = split_at t (z ∷ on_) i in absurd (none_at net q t s.0 s.1 (subst (HasNone net q) (sym s.2) k) own)
              go (at b u c f k o) = (u, inl same, inr (subst (IsIn u) f (in_middle b)))
                where
                  in_middle : (b : List ℕ) → IsIn u (b ++ u ∷ c)
                  in_middle [] = inl refl
                  in_middle (g ∷ b) = inr (in_middle b)

                  next_y : IsNext net q (place_of 0 (part net q a)) y
                  next_y = next_behind q y before after e clear (inr got)

                  next_u : IsNext net q (place_of 0 (part net q a)) u
                  next_u = next_aside q u b c f k o

                  lt : q < roles
                  lt = declared q y (inr got) text_y

                  receives : net.receiver u ≡ q
                  receives = ⊎_elim (λ g. absurd (fork.accepted.unmixed q (place_of 0 (part net q a)) u y lt (stood q) next_u next_y g got)) (λ g. g) o

                  same : net.sender u ≡ net.sender y
                  same = fork.accepted.one_sender q (place_of 0 (part net q a)) u y lt (stood q) next_u next_y receives got
          choose (t, own, inl i) = absurd (⊎_elim early late (cases_lt (net.stage (net.lane y)) (net.stage (net.lane x))))
            where
              -- y would come behind x, in an earlier stage
              early : net.stage (net.lane y) < net.stage (net.lane x) → ⊥
              early less = go before e
                where
                  go : (before : List ℕ) → before ++ y ∷ after ≡ x ∷ v → ⊥
                  go [] f = let g : y ≡ x = cc in n (ap net.lane g)
                  go (b ∷ bs) f = let g : bs ++ y ∷ after ≡ v = cc in no_return net (opened net 0) a bs after x y (subst (λ l. IsWalk net 0 (a ++ x ∷ l)) (sym g) all_walk) less

              -- t would come behind y, in an earlier stage
              late : net.stage (net.lane x) ≤ net.stage (net.lane y) → ⊥
              late le = ⊎_elim
                  (λ j. none_in before clear j)
                  (⊎_elim
                  (λ g. n (ap net.lane (sym g) ∙ i.1))
                  (λ g.
                  let s = split_at t after g in
                  no_return net (opened net 0) (a ++ before) s.0 s.1 y t (subst (IsWalk net 0) (sym (append_assoc a before (y ∷ after)) ∙ ap (λ l. (a ++ before) ++ y ∷ l) (sym s.2)) walk_y) (subst (λ l. net.stage l < net.stage (net.lane y)) (sym i.1) (omega (arith, le, λ (g : net.stage (net.lane y) ≡ net.stage (net.lane x)). apart g)))))
                  (in_both t before (y ∷ after) (subst (IsIn t) (sym e) i.0))
                where
                  none_in : (bs : List ℕ) → HasNone net q bs → IsIn t bs → ⊥
                  none_in [] k j = j
                  none_in (b ∷ bs) k (inl g) = k.0 (subst (IsOf net q) g own)
                  none_in (b ∷ bs) k (inr g) = none_in bs k.1 g

  -- one event more is still before the fork
  within_more : (front back : List Event) (e : Event) → front ++ e ∷ back ≡ h → ((q : ℕ) → IsAtStake net x v z on_ q → IsPrefix (acts q front) (part net q a)) → (q : ℕ) → IsAtStake net x v z on_ q → IsPrefix (acts q (front ++ e ∷ [])) (part net q a)
  unfolding place
  within_more front back e eq within q stake = ⊎_elim own (λ n. subst (λ l. IsPrefix l (part net q a)) (sym (acts_other q front e n)) (within q stake)) (cases_eq e.role q)
    where
      so_far : (front ++ e ∷ []) ++ back ≡ h
      so_far = append_assoc front (e ∷ []) back ∙ eq

      early : IsPrefix (acts e.role (front ++ e ∷ [])) (acts e.role h)
      early = prefix_map (act_of e.role) (front ++ e ∷ []) h (back, so_far)

      parts : part net e.role w ≡ part net e.role a ++ part net e.role (x ∷ v)
      parts = ap (part net e.role) (sym fork.whole) ∙ part_join net e.role a (x ∷ v)

      reach : IsPrefix (acts e.role front ++ record { dir = e.dir; point = e.point } ∷ []) (part net e.role a ++ part net e.role (x ∷ v))
      reach = subst (λ l. IsPrefix l (part net e.role a ++ part net e.role (x ∷ v))) (acts_own front e) (subst (IsPrefix (acts e.role (front ++ e ∷ []))) parts (prefix_trans _ _ _ early (fork.run.parts e.role)))

      never' : IsAtStake net x v z on_ e.role → acts e.role front ≡ part net e.role a → ⊥
      never' mine all = ⊎_elim chooser other (cases_eq e.role r)
        where
          next : IsPrefix (record { dir = e.dir; point = e.point } ∷ []) (part net e.role (x ∷ v))
          next = prefix_drop (part net e.role a) _ _ (subst (λ l. IsPrefix (l ++ record { dir = e.dir; point = e.point } ∷ []) (part net e.role a ++ part net e.role (x ∷ v))) all reach)

          chooser : e.role ≡ r → ⊥
          chooser f =
              let b : IsPrefix (part net e.role a ++ record { dir = e.dir; point = e.point } ∷ []) (acts e.role h) = subst (λ l. IsPrefix l (acts e.role h)) (acts_own front e ∙ ap (λ l. l ++ record { dir = e.dir; point = e.point } ∷ []) all) early in
              let g : acts e.role h ≡ part net e.role a = subst (λ y. acts y h ≡ part net y a) (sym f) fork.waits in
              omega (arith, prefix_length _ _ b, ap length g, length-append (part net e.role a) (record { dir = e.dir; point = e.point } ∷ []))

          other : (e.role ≡ r → ⊥) → ⊥
          other n = kinds hd.kind
            where
              hd : Head net e.role (x ∷ v) (record { dir = e.dir; point = e.point })
              hd = head net e.role (x ∷ v) (record { dir = e.dir; point = e.point }) next.0 (sym next.1)

              kinds : IsKind net e.role (record { dir = e.dir; point = e.point }) hd.point → ⊥
              kinds (inl f) = no_send e.role hd.point n mine (next_behind e.role hd.point hd.before hd.after hd.whole hd.none_before (inl f.1)) f.1
              kinds (inr f) =
                  let d : e.dir ≡ Got = ap (λ (b : Act). b.dir) f.0 in
                  let p : e.point ≡ hd.point = ap (λ (b : Act). b.point) f.0 in
                  no_recv net a front e (subst (λ y. IsPrefix (acts (net.sender y) front) (part net (net.sender y) a)) (sym p) (within (net.sender hd.point) (sender_at_stake e.role hd.point hd.before hd.after mine hd.whole hd.none_before f.1))) all d (subst (λ y. net.sender y ≡ e.role → ⊥) (sym p) f.2) (fork.run.queued (front ++ e ∷ []) back so_far (net.sender e.point) e.role)

      own : e.role ≡ q → IsPrefix (acts q (front ++ e ∷ [])) (part net q a)
      own f = subst (λ y. IsPrefix (acts y (front ++ e ∷ [])) (part net y a)) f (subst (λ l. IsPrefix l (part net e.role a)) (sym (acts_own front e)) (room (cases_lt (length (acts e.role front)) (length (part net e.role a)))))
        where
          mine : IsAtStake net x v z on_ e.role
          mine = subst (IsAtStake net x v z on_) (sym f) stake

          room : (length (acts e.role front) < length (part net e.role a)) ⊎ (length (part net e.role a) ≤ length (acts e.role front)) → IsPrefix (acts e.role front ++ record { dir = e.dir; point = e.point } ∷ []) (part net e.role a)
          room (inl lt) = prefix_shorter _ _ (part net e.role a ++ part net e.role (x ∷ v)) reach (part net e.role (x ∷ v), refl) (omega (arith, length-append (acts e.role front) (record { dir = e.dir; point = e.point } ∷ [])))
          room (inr ge) = absurd (never' mine (whole_prefix _ _ (within e.role mine) ge))

  -- no role at stake has gone behind the fork
  pub nobody : (front back : List Event) → front ++ back ≡ h → ((q : ℕ) → IsAtStake net x v z on_ q → IsPrefix (acts q front) (part net q a)) → (q : ℕ) → IsAtStake net x v z on_ q → IsPrefix (acts q h) (part net q a)
  nobody front [] eq within q stake = subst (λ l. IsPrefix (acts q l) (part net q a)) (sym (append-nil front) ∙ eq) (within q stake)
  nobody front (e ∷ back) eq within q stake = nobody (front ++ e ∷ []) back (append_assoc front (e ∷ []) back ∙ eq) (λ s m. within_more front back e eq within s m) q stake
