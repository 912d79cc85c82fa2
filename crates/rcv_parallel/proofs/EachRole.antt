-- Sorting by lanes keeps what each role does in a walk: points that change their order share no role. So runs are those of
-- walks in text order.
use Rattle.std.proofs.Common.{◌≡◌, ℕ, zero, suc, ◌<◌, ◌≤◌, Option, Some, None, List, [], ◌∷◌, ◌++◌, refl, sym, ◌∙◌, ap, subst, inl, inr, ⊎_elim, arith}
use Rattle.std.specs.Prelude.{◌↔◌}
use Rattle.std.specs.List.{cons_option}
use Rattle.std.proofs.lemmas.Bool.{cases_eq, cases_lt}
use Rattle.rcv_tree.specs.declared.event.Event.{Event}
use Rattle.rcv_model.specs.Net.{Net, IsIn, opened, moved, ComeFrom, IsWalk, IsPrefix}
use Rattle.rcv_model.specs.Next.{IsOf, HasNone}
use Rattle.rcv_model.specs.Run.{Act, act_at, part, acts, IsRun}
use Rattle.rcv_model.proofs.Walks.{Ahead}
use Rattle.rcv_model.proofs.Lanes.{IsLaned, moved_laned, opened_laned, no_return}
use Rattle.rcv_model.proofs.Parts.{ActCase, none, sends, gets, act_case, part_join, part_none}
use Rattle.rcv_parallel.specs.TextOrder.{HasLanesInOrder, joined, in_lane, by_lanes, FollowsTextOrder}
use Rattle.rcv_parallel.proofs.InLane.{lane_yes, lane_no, below, below_nil, below_yes, below_no, below_all, below_none}
use Rattle.rcv_parallel.proofs.Joining.{order_walk}
use Rattle.rcv_parallel.proofs.Sorting.{sorted}

-- behind a point of role r stands none of r's in a lane before
abbrev pub InLaneOrder : Net → ℕ → List ℕ → Type 0
InLaneOrder net r [] = Unit {0}
InLaneOrder net r (x ∷ w) = (IsOf net r x → (y : ℕ) → IsIn y w → net.lane y < net.lane x → IsOf net r y → ⊥) × InLaneOrder net r w

-- then r has no point in the lanes before
no_earlier : (net : Net) (r x : ℕ) (w : List ℕ) → ((y : ℕ) → IsIn y w → net.lane y < net.lane x → IsOf net r y → ⊥) → HasNone net r (below net (net.lane x) w)
no_earlier net r x [] free = subst (HasNone net r) (sym (below_nil net (net.lane x))) tt
no_earlier net r x (y ∷ w) free = ⊎_elim
    (λ lt. subst (HasNone net r) (sym (below_yes net (net.lane x) y w lt)) (free y (inl refl) lt, no_earlier net r x w (λ z i. free z (inr i))))
    (λ le. subst (HasNone net r) (sym (below_no net (net.lane x) y w le)) (no_earlier net r x w (λ z i. free z (inr i))))
    (cases_lt (net.lane y) (net.lane x))

cons_join : (o : Option Act) (xs ys : List Act) → cons_option o (xs ++ ys) ≡ cons_option o xs ++ ys
cons_join None xs ys = refl
cons_join (Some a) xs ys = refl

-- one lane more: its points come behind those of the lanes before
next_lane : (net : Net) (r n : ℕ) (w : List ℕ) → InLaneOrder net r w → part net r (below net (suc n) w) ≡ part net r (below net n w) ++ part net r (in_lane net w n)
next_lane net r n [] order = ap (part net r) (below_nil net (suc n)) ∙ ap (λ u. part net r u ++ part net r []) (sym (below_nil net n))
next_lane net r n (x ∷ w) order = go (next_lane net r n w order.1)
  where
    go : part net r (below net (suc n) w) ≡ part net r (below net n w) ++ part net r (in_lane net w n) → part net r (below net (suc n) (x ∷ w)) ≡ part net r (below net n (x ∷ w)) ++ part net r (in_lane net (x ∷ w) n)
    go ih = ⊎_elim here (λ m. ⊎_elim earlier (λ le. later (omega (arith, le, m))) (cases_lt (net.lane x) n)) (cases_eq (net.lane x) n)
      where
        here : net.lane x ≡ n → part net r (below net (suc n) (x ∷ w)) ≡ part net r (below net n (x ∷ w)) ++ part net r (in_lane net (x ∷ w) n)
        here e = ap (part net r) (below_yes net (suc n) x w (omega (arith, e))) ∙ both (act_case net r x) ∙ sym (ap (λ u. part net r u ++ part net r (in_lane net (x ∷ w) n)) (below_no net n x w (omega (arith, e))) ∙ ap (λ u. part net r (below net n w) ++ part net r u) (lane_yes net n x w e))
          where
            none_before : IsOf net r x → part net r (below net n w) ≡ []
            none_before own = part_none net r (below net n w) (subst (λ m. HasNone net r (below net m w)) e (no_earlier net r x w (order.0 own)))

            own_case : IsOf net r x → part net r (x ∷ below net (suc n) w) ≡ part net r (below net n w) ++ part net r (x ∷ in_lane net w n)
            own_case own =
                ap (cons_option (act_at net r x)) (ih ∙ ap (λ u. u ++ part net r (in_lane net w n)) (none_before own))
                ∙ ap (λ u. u ++ part net r (x ∷ in_lane net w n)) (sym (none_before own))

            both : ActCase net r x → part net r (x ∷ below net (suc n) w) ≡ part net r (below net n w) ++ part net r (x ∷ in_lane net w n)
            both (none f m) =
                ap (λ o. cons_option o (part net r (below net (suc n) w))) f ∙ ih
                ∙ ap (λ o. part net r (below net n w) ++ cons_option o (part net r (in_lane net w n))) (sym f)
            both (sends f g) = own_case (inl g)
            both (gets f g m) = own_case (inr g)

        earlier : net.lane x < n → part net r (below net (suc n) (x ∷ w)) ≡ part net r (below net n (x ∷ w)) ++ part net r (in_lane net (x ∷ w) n)
        earlier lt =
            ap (part net r) (below_yes net (suc n) x w (omega (arith, lt)))
            ∙ ap (cons_option (act_at net r x)) ih
            ∙ cons_join (act_at net r x) (part net r (below net n w)) (part net r (in_lane net w n))
            ∙ sym (ap (λ u. part net r u ++ part net r (in_lane net (x ∷ w) n)) (below_yes net n x w lt) ∙ ap (λ u. part net r (x ∷ below net n w) ++ part net r u) (lane_no net n x w (λ e. omega (arith, e, lt))))

        later : n < net.lane x → part net r (below net (suc n) (x ∷ w)) ≡ part net r (below net n (x ∷ w)) ++ part net r (in_lane net (x ∷ w) n)
        later lt =
            ap (part net r) (below_no net (suc n) x w (omega (arith, lt)))
            ∙ ih
            ∙ sym (ap (λ u. part net r u ++ part net r (in_lane net (x ∷ w) n)) (below_no net n x w (omega (arith, lt))) ∙ ap (λ u. part net r (below net n w) ++ part net r u) (lane_no net n x w (λ e. omega (arith, e, lt))))

lanes_in_order : (net : Net) (r n : ℕ) (w : List ℕ) → InLaneOrder net r w → part net r (joined n (in_lane net w)) ≡ part net r (below net n w)
lanes_in_order net r zero w order = ap (part net r) (sym (below_none net w))
lanes_in_order net r (suc n) w order =
    part_join net r (joined n (in_lane net w)) (in_lane net w n)
    ∙ ap (λ u. u ++ part net r (in_lane net w n)) (lanes_in_order net r n w order)
    ∙ sym (next_lane net r n w order)

-- each point of a list, with what stands before it and behind
split_in : (y : ℕ) (w : List ℕ) → IsIn y w → (a : List ℕ) × (b : List ℕ) × (a ++ y ∷ b ≡ w)
split_in y [] i = absurd i
split_in y (x ∷ w) (inl e) = ([], w, ap (λ z. z ∷ w) e)
split_in y (x ∷ w) (inr i) = let s = split_in y w i in (x ∷ s.0, s.1, ap (λ u. x ∷ u) s.2)

come_in_text : (net : Net) (roles lanes y : ℕ) (ahead : Ahead) (w : List ℕ) → HasLanesInOrder net roles lanes → IsLaned net ahead → ComeFrom net ahead w → IsIn y w → (1 ≤ y) × (y ≤ net.count)
come_in_text net roles lanes y ahead [] has laned c i = absurd i
come_in_text net roles lanes y ahead (x ∷ w) has laned c (inl e) = subst (λ z. (1 ≤ z) × (z ≤ net.count)) (sym e) (laned.in_text (net.lane x) x c.0.offered)
come_in_text net roles lanes y ahead (x ∷ w) has laned c (inr i) = come_in_text net roles lanes y (moved net ahead x) w has (moved_laned net roles ahead x has.proper laned) c.1 i

-- a walk has such an order: no point of an earlier stage comes later, and lanes of one stage share no role
come_in_order : (net : Net) (roles lanes r : ℕ) (ahead : Ahead) (w : List ℕ) → HasLanesInOrder net roles lanes → IsLaned net ahead → ComeFrom net ahead w → InLaneOrder net r w
come_in_order net roles lanes r ahead [] has laned c = tt
come_in_order net roles lanes r ahead (x ∷ w) has laned c = (apart, come_in_order net roles lanes r (moved net ahead x) w has (moved_laned net roles ahead x has.proper laned) c.1)
  where
    apart : IsOf net r x → (y : ℕ) → IsIn y w → net.lane y < net.lane x → IsOf net r y → ⊥
    apart own_x y i lt own_y =
        let s = split_in y w i in
        let not_before : net.stage (net.lane y) < net.stage (net.lane x) → ⊥ = no_return net ahead [] s.0 s.1 x y (subst (λ u. ComeFrom net ahead (x ∷ u)) (sym s.2) c) in
        let up = has.rising (net.lane y) (net.lane x) (omega (arith, lt)) (has.has_lane x) in
        let at_x = laned.in_text (net.lane x) x c.0.offered in
        let at_y = come_in_text net roles lanes y ahead (x ∷ w) has laned c (inr i) in
        let same : net.lane y ≡ net.lane x = has.proper.lanes.one_lane r y x at_y.0 at_y.1 at_x.0 at_x.1 own_y own_x (omega (arith, up, not_before)) in
        omega (arith, same, lt)

pub keeps_role : (net : Net) (roles lanes k r : ℕ) (w : List ℕ) → HasLanesInOrder net roles lanes → IsWalk net k w → part net r (by_lanes net lanes w) ≡ part net r w
keeps_role net roles lanes k r w has walk =
    lanes_in_order net r lanes w (come_in_order net roles lanes r (opened net k) w has (opened_laned net roles k has.proper) walk)
    ∙ ap (part net r) (below_all net lanes w has.has_lane)

pub runs_in_order : (net : Net) (roles lanes : ℕ) (h : List Event) → HasLanesInOrder net roles lanes → IsRun net h ↔ FollowsTextOrder net lanes h
runs_in_order net roles lanes h has = (to, from)
  where
    to : IsRun net h → FollowsTextOrder net lanes h
    to run = record {
      walk = by_lanes net lanes run.0;
      in_order = sorted net roles lanes 0 run.0 has run.1.walk;
      parts = λ r. subst (IsPrefix (acts r h)) (sym (keeps_role net roles lanes 0 r run.0 has run.1.walk)) (run.1.parts r);
      queued = run.1.queued;
    }

    from : FollowsTextOrder net lanes h → IsRun net h
    from f = (f.walk, record { walk = (order_walk net roles lanes 0 f.walk has f.in_order).0; parts = f.parts; queued = f.queued })
