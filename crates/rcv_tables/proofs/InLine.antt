-- Where a role is first marked on some walk with lanes, and where on some way through the line: the same points.
use Rattle.std.proofs.Common.{◌≡◌, ℕ, ◌+◌, ◌-◌, ◌<◌, ◌≤◌, Bool, true, false, List, [], ◌∷◌, ◌++◌, refl, sym, ◌∙◌, ap, subst, ◌⊎◌, inl, inr, ⊎_elim, append_assoc, arith}
use Rattle.std.specs.Prelude.{if◌then◌else◌}
use Rattle.std.proofs.lemmas.Bool.{cases_Bool, cases_eq, cases_lt}
use Rattle.rcv_model.specs.Net.{Net, IsIn, opened, left_by, IsWalk, IsLaneWalk, last_of}
use Rattle.rcv_model.specs.Next.{IsOf, LanesEnd, IsProper}
use Rattle.rcv_model.specs.Places.{union}
use Rattle.rcv_model.specs.Table.{mark, marks, IsMarkedAt}
use Rattle.rcv_model.proofs.Marks.{marks_more, mark_here, mark_cases}
use Rattle.rcv_model.proofs.Walks.{come_front, come_back, opened_here, lane_join}
use Rattle.rcv_model.proofs.Lanes.{walk_in_text, ended_stays, Opens, at_own, at_later, at_shut, opens}
use Rattle.rcv_model.proofs.PlacesLemmas.{union_only}
use Rattle.rcv_model.proofs.Parted.{IsFrom, left_from}
use Rattle.rcv_tables.specs.Line.{LanesRise, is_last, or_else, offered_from, lanes_after, offered_after, line, IsLaneMarkedAt}
use Rattle.rcv_tables.proofs.Agreeing.{Agree, Each, agree_same, agree_on, agree_less, marks_join, marked_by}
use Rattle.rcv_tables.proofs.Sorting.{Sorted, sort, more_of_lane, goes_in, from_place, left_place, shut}
use Rattle.rcv_tables.proofs.Passages.{InText, from_points, begun_points, offered_points, stages_rise, Counts, CameBy, passage_marks}
use Rattle.rcv_tables.proofs.LineWays.{lane_in_line, end_on, last_lane, on_line}
use Rattle.rcv_tables.proofs.PassageWalks.{last_high}
use Rattle.rcv_tables.proofs.WalkPassages.{Stands, lane_marks, arrival_marks, taken_out, ended_before, Found, passage_of}

-- the line marks as the net does
pub line_marks : (net : Net) (m w : List ℕ) → marks (line net) m w ≡ marks net m w
line_marks net m [] = refl
line_marks net m (x ∷ w) = line_marks net (mark net m x) w

module _ (net : Net) (roles : ℕ) (proper : IsProper net roles) where
  -- what the line offers stands in the text
  begun_text : (ls : List ℕ) (x : ℕ) → IsIn x (offered_from net ls) → InText net x
  begun_text [] x i = absurd i
  begun_text (l ∷ ls) x i = go (is_last net l) i (begun_text ls x)
    where
      other : (ps : List ℕ) → net.begins l ≡ ps → IsIn x (or_else (net.begins l) (offered_from net ls)) → (IsIn x (offered_from net ls) → InText net x) → InText net x
      other [] e j ih = ih (subst (λ qs. IsIn x (or_else qs (offered_from net ls))) e j)
      other (p ∷ ps) e j ih = proper.begun_in_text l x (subst (IsIn x) (sym e) (subst (λ qs. IsIn x (or_else qs (offered_from net ls))) e j))

      go : (b : Bool) → IsIn x (if b then union (net.begins l) (offered_from net ls) else or_else (net.begins l) (offered_from net ls)) → (IsIn x (offered_from net ls) → InText net x) → InText net x
      go true j ih = ⊎_elim (λ k. proper.begun_in_text l x k) (λ k. ih k) (union_only x (net.begins l) (offered_from net ls) j)
      go false j ih = other (net.begins l) refl j ih

  after_text : (l x : ℕ) → IsIn x (offered_after net l) → InText net x
  after_text l x i = go (is_last net l) i
    where
      go : (b : Bool) → IsIn x (if b then [] else offered_from net (lanes_after net l)) → InText net x
      go true j = absurd j
      go false j = begun_text (lanes_after net l) x j

  pub line_text : (k x : ℕ) → IsIn x ((line net).offers k) → InText net x
  line_text k x i = go (net.offers k) refl
    where
      go : (ps : List ℕ) → net.offers k ≡ ps → InText net x
      go [] e = after_text (net.lane k) x (subst (λ qs. IsIn x (or_else qs (offered_after net (net.lane k)))) e i)
      go (p ∷ ps) e = proper.in_text k x (subst (IsIn x) (sym e) (subst (λ qs. IsIn x (or_else qs (offered_after net (net.lane k)))) e i))

  pub end_text : (k z : ℕ) (b : List ℕ) → IsLaneWalk (line net) k (b ++ z ∷ []) → InText net z
  end_text k z [] w = line_text k z w.0
  end_text k z (x ∷ b) w = end_text x z b w.1

  module _ (rises : LanesRise net) (p n : ℕ) (at_n : InText net n) (own : IsOf net p n) where
    -- from n lanes that stand before that of n are shut
    pub below_n : (k : ℕ) → k < net.lane n → opened net n k ≡ []
    below_n k lt = go (opens net n k)
      where
        none : net.stage (net.lane n) < net.stage k → (ps : List ℕ) → net.begins k ≡ ps → net.begins k ≡ []
        none less [] e = e
        none less (x ∷ ps) e =
            let t = begun_points net roles proper k x (subst (IsIn x) (sym e) (inl refl)) in
            let lane = t.1 in
            let rise = stages_rise net roles proper rises x n t.0 at_n (omega (arith, lane, lt)) in
            absurd (omega (arith, rise, less, ap net.stage lane))

        go : Opens net n k → opened net n k ≡ []
        go (at_own e f) = absurd (omega (arith, e, lt))
        go (at_later m less f) = f ∙ none less (net.begins k) refl
        go (at_shut m j f) = f

    -- the roles that are marked in the lane of n have points there
    pub came : (z : ℕ) (at_z : InText net z) (u : List ℕ) → ((x : ℕ) → IsIn x u → InText net x × (net.lane x ≡ net.lane n)) → (r : ℕ) → IsIn r (marks net (mark net (p ∷ []) n) u) → CameBy net roles proper rises n z at_n at_z (net.lane n + 1) r
    came z at_z u are r i = ⊎_elim
        (λ j. ⊎_elim (λ e. record { point = n; text = at_n; own = subst (λ q. IsOf net q n) (sym e) own; from = inl refl }) (λ none. absurd none) j)
        (λ a. ⊎_elim
        (λ e. record { point = n; text = at_n; own = inr (ap net.receiver (sym e) ∙ sym a.2); from = inl refl })
        (λ j. let t = are a.0 j in record { point = a.0; text = t.0; own = inr (sym a.2); from = inl t.1 })
        a.1)
        (marked_by net (p ∷ []) (n ∷ u) r i)

    module _ (ends : LanesEnd net) where
      -- a way through the line that marks the roles of z as a walk from n does
      record InLine (z : ℕ) (b : List ℕ) : Type 0 where
        points : List ℕ
        way : IsLaneWalk (line net) n (points ++ z ∷ [])
        agree : Agree (λ r. IsOf net r z) (marks net (mark net (p ∷ []) n) b) (marks net (mark net (p ∷ []) n) points)

      in_line : (z : ℕ) (b : List ℕ) → IsWalk net n (b ++ z ∷ []) → InLine z b
      in_line z b walk = go (cases_eq (net.lane z) (net.lane n)) (sort net (net.lane n) b)
        where
          at_z : InText net z
          at_z = walk_in_text net roles n z b [] proper walk

          M : List ℕ
          M = mark net (p ∷ []) n

          s : Stands net roles proper rises n z at_n at_z (net.lane n) (opened net n) b
          s = record { walk = walk; below = below_n; rest = λ k le. refl }

          later : (net.lane z ≡ net.lane n → ⊥) → net.stage (net.lane n) < net.stage (net.lane z)
          later other = by (opens net n (net.lane z))
            where
              offered : IsIn z (left_by net (opened net n) b (net.lane z))
              offered = (come_back net (opened net n) b (z ∷ []) walk).0.offered

              by : Opens net n (net.lane z) → net.stage (net.lane n) < net.stage (net.lane z)
              by (at_own e f) = absurd (other e)
              by (at_later m less f) = less
              by (at_shut m j f) = absurd (subst (IsIn z) (ended_stays net (opened net n) b (net.lane z) (come_front net (opened net n) b (z ∷ []) walk) f) offered)

          go : (net.lane z ≡ net.lane n) ⊎ (net.lane z ≡ net.lane n → ⊥) → (u : List ℕ) × (v : List ℕ) × Sorted net (net.lane n) b u v → InLine z b
          go (inl e) c = record {
            points = c.0;
            way = lane_in_line net n (c.0 ++ z ∷ []) (from_place net n (c.0 ++ z ∷ []) (subst (λ ps. IsFrom net ps (c.0 ++ z ∷ [])) (opened_here net n (net.lane n) refl) (goes_in net (net.lane n) (more_of_lane net (net.lane n) c.2 z e) (opened net n) walk)));
            agree = arrival_marks net roles proper rises n z at_n at_z (net.lane n) (opened net n) b c.0 c.1 (mark net (p ∷ []) n) (sym e) s c.2;
          }
          go (inr other) c = record {
            points = c.0 ++ found.v;
            way = subst (IsLaneWalk (line net) n) (sym (append_assoc c.0 found.v (z ∷ []))) (lane_join (line net) n c.0 (found.v ++ z ∷ []) (lane_in_line net n c.0 within') (end_on net (last_of n c.0) (net.lane n) (net.lane net.count - net.lane n) (found.v ++ z ∷ []) ended (last_lane net roles proper n c.0 within') last whole (on_line net roles proper rises n z at_z (net.lane net.count - net.lane n) found.passage (omega (arith, upto)))));
            agree = agree_on P (marks net M b) (marks net (marks net M c.0) c.1) (marks net M (c.0 ++ found.v)) (agree_less Each P (marks net M b) (marks net (marks net M c.0) c.1) (λ r o. tt) (lane_marks net roles proper rises n z at_n at_z (net.lane n) (opened net n) b c.0 c.1 M s c.2)) (agree_on P (marks net (marks net M c.0) c.1) (marks net (marks net M c.0) found.w) (marks net M (c.0 ++ found.v)) found.agree (subst (Agree P (marks net (marks net M c.0) found.w)) (sym (marks_join net M c.0 found.v)) (passage_marks net roles proper rises n z at_n at_z (omega arith) found.passage (marks net M c.0) (marks net M c.0) (agree_same (Counts net roles proper rises n z at_n at_z (net.lane n + 1)) (marks net M c.0)) (came z at_z c.0 (from_points net roles proper (net.offers n) (net.lane n) c.0 (offered_points net roles proper n) within_ps)))));
          }
            where
              P : ℕ → Type 0
              P r = IsOf net r z

              less : net.stage (net.lane n) < net.stage (net.lane z)
              less = later other

              before : net.lane n < net.lane z
              before = ⊎_elim (λ lt. lt) (λ le. let rise = stages_rise net roles proper rises z n at_z at_n (omega (arith, le, other)) in absurd (omega (arith, rise, less))) (cases_lt (net.lane n) (net.lane z))

              upto : net.lane n ≤ net.lane net.count
              upto = rises n net.count at_n.0 at_n.1 (omega arith)

              whole : net.lane n + (net.lane net.count - net.lane n) ≡ net.lane net.count
              whole = omega (arith, upto)

              within_ps : IsFrom net (net.offers n) c.0
              within_ps = subst (λ ps. IsFrom net ps c.0) (opened_here net n (net.lane n) refl) (goes_in net (net.lane n) c.2 (opened net n) (come_front net (opened net n) b (z ∷ []) walk))

              within' : IsLaneWalk net n c.0
              within' = from_place net n c.0 within_ps

              ended : net.offers (last_of n c.0) ≡ []
              ended = sym (left_place net n c.0) ∙ subst (λ ps. left_from net ps c.0 ≡ []) (opened_here net n (net.lane n) refl) (ended_before net roles proper rises n z at_n at_z (net.lane n) (opened net n) b c.0 c.1 less s c.2)

              last : is_last net (net.lane n) ≡ false
              last = ⊎_elim (λ t. let h = last_high net roles (net.lane n) z proper at_z t in absurd (omega (arith, h, less))) (λ f. f) (cases_Bool (is_last net (net.lane n)))

              found : Found net roles proper rises n z at_n at_z (net.lane n + 1) c.1 (marks net M c.0)
              found = passage_of net roles proper rises n z at_n at_z ends (net.lane z - (net.lane n + 1)) (net.lane n + 1) (shut (opened net n) (net.lane n)) c.1 (marks net M c.0) (omega (arith, before)) less (omega arith) (taken_out net roles proper rises n z at_n at_z (net.lane n) (opened net n) b c.0 c.1 other s c.2)

      -- so where a role is first marked on a walk
      pub to_line : (q z : ℕ) → (q ≡ p → ⊥) → IsMarkedAt net p n q z → IsLaneMarkedAt (line net) p n q z
      to_line q z apart at' = go at'.before at'.walk.2 at'.not_yet at'.now
        where
          go : (before : List ℕ) → before ++ z ∷ at'.after ≡ n ∷ at'.walk.0 → (IsIn q (marks net (p ∷ []) before) → ⊥) → IsIn q (marks net (p ∷ []) (before ++ z ∷ [])) → IsLaneMarkedAt (line net) p n q z
          go [] e not_yet now = let f : z ≡ n = cc in record { before = []; after = []; walk = ([], tt, ap (λ x. x ∷ []) f); not_yet = not_yet; now = now }
          go (y ∷ b) e not_yet now =
              let f : y ≡ n = cc in
              let g : b ++ z ∷ at'.after ≡ at'.walk.0 = cc in
              let walk : IsWalk net n (b ++ z ∷ []) = come_front net (opened net n) (b ++ z ∷ []) at'.after (subst (IsWalk net n) (sym g ∙ sym (append_assoc b (z ∷ []) at'.after)) at'.walk.1) in
              made (in_line z b walk) (subst (λ x. IsIn q (marks net (mark net (p ∷ []) x) b) → ⊥) f not_yet) (mark_cases net (marks net (mark net (p ∷ []) n) b) z q (subst (IsIn q) (marks_more net (mark net (p ∷ []) n) b z) (subst (λ x. IsIn q (marks net (mark net (p ∷ []) x) (b ++ z ∷ []))) f now)))
            where
              made : InLine z b → (IsIn q (marks net (mark net (p ∷ []) n) b) → ⊥) → IsIn q (marks net (mark net (p ∷ []) n) b) ⊎ ((q ≡ net.receiver z) × IsIn (net.sender z) (marks net (mark net (p ∷ []) n) b)) → IsLaneMarkedAt (line net) p n q z
              made i free (inl j) = absurd (free j)
              made i free (inr a) = record {
                before = n ∷ i.points;
                after = [];
                walk = (i.points ++ z ∷ [], i.way, refl);
                not_yet = λ j. free (i.agree.1 q (inr (sym a.0)) (subst (IsIn q) (line_marks net (mark net (p ∷ []) n) i.points) j));
                now = subst (IsIn q) (sym (line_marks net (mark net (p ∷ []) n) (i.points ++ z ∷ []))) (subst (IsIn q) (sym (marks_more net (mark net (p ∷ []) n) i.points z)) (subst (λ r. IsIn r (mark net (marks net (mark net (p ∷ []) n) i.points) z)) (sym a.0) (mark_here net (marks net (mark net (p ∷ []) n) i.points) z (i.agree.0 (net.sender z) (inl refl) a.1))));
              }
