-- And a role that is first marked on some way through the line is so on some walk.
use Rattle.std.proofs.Common.{◌≡◌, ℕ, ◌+◌, ◌-◌, ◌<◌, ◌≤◌, List, [], ◌∷◌, ◌++◌, refl, sym, ◌∙◌, ap, subst, ◌⊎◌, inl, inr, ⊎_elim, append_assoc, arith}
use Rattle.std.proofs.lemmas.Bool.{cases_eq, cases_lt}
use Rattle.rcv_model.specs.Net.{Net, IsIn, opened, MayCome, left_by, IsWalk, IsLaneWalk}
use Rattle.rcv_model.specs.Next.{IsOf, IsProper}
use Rattle.rcv_model.specs.Table.{mark, marks, IsMarkedAt}
use Rattle.rcv_model.proofs.Marks.{marks_more, mark_here, mark_cases}
use Rattle.rcv_model.proofs.Walks.{come_join, opened_here, opened_none, lane_front}
use Rattle.rcv_model.proofs.Completing.{ComesInLane, comes_in_lane}
use Rattle.rcv_model.proofs.Parted.{IsFrom, left_from}
use Rattle.rcv_tables.specs.Line.{LanesRise, line, IsLaneMarkedAt, MarksAreInLine}
use Rattle.rcv_tables.proofs.Agreeing.{Agree, agree_same, marks_join, idle}
use Rattle.rcv_tables.proofs.Passages.{InText, Passage, passage_low, from_points, offered_points, one_of_stage, stages_rise, Counts, CameBy, passage_marks}
use Rattle.rcv_tables.proofs.LineWays.{Stays, within, leaves, stays_at, off_line, at_place}
use Rattle.rcv_tables.proofs.PassageWalks.{HasGone, walk_of_passage}
use Rattle.rcv_tables.proofs.InLine.{line_marks, end_text, below_n, came, to_line}

module _ (net : Net) (roles : ℕ) (proper : IsProper net roles) where
  -- a way within the lane of n, as a walk from n
  record LaneGoes (n : ℕ) (u : List ℕ) : Type 0 where
    walk : IsWalk net n u
    here' : left_by net (opened net n) u (net.lane n) ≡ left_from net (net.offers n) u
    else' : (k : ℕ) → (k ≡ net.lane n → ⊥) → left_by net (opened net n) u k ≡ opened net n k

  lane_goes : (n : ℕ) (u : List ℕ) → IsFrom net (net.offers n) u → LaneGoes n u
  lane_goes n [] f = record { walk = tt; here' = opened_here net n (net.lane n) refl; else' = λ k m. refl }
  lane_goes n (x ∷ u) f = record { walk = c.walk; here' = ap (left_by net (opened net n) (x ∷ u)) (sym same) ∙ c.here'; else' = λ k m. c.else' k (λ e. m (e ∙ same)) }
    where
      same : net.lane x ≡ net.lane n
      same = proper.lanes.kept n x f.0

      may : MayCome net (opened net n) x
      may = record {
        offered = subst (IsIn x) (sym (opened_here net n (net.lane x) same)) f.0;
        ended = λ k lt. opened_none net n k (λ e. omega (arith, lt, ap net.stage e, ap net.stage same)) (λ less. omega (arith, lt, less, ap net.stage same));
      }

      c : ComesInLane net (opened net n) x u
      c = comes_in_lane net roles (opened net n) x u proper may f.1

  module _ (rises : LanesRise net) (p n : ℕ) (at_n : InText net n) (own : IsOf net p n) where
    -- a walk from n that marks the roles of z as a way through the line does
    record HasWalk (z : ℕ) (b : List ℕ) : Type 0 where
      points : List ℕ
      walk : IsWalk net n (points ++ z ∷ [])
      agree : Agree (λ r. IsOf net r z) (marks net (mark net (p ∷ []) n) b) (marks net (mark net (p ∷ []) n) points)

    -- behind the lane of n, which the line has gone through to its end by the points a
    module _ (z : ℕ) (at_z : InText net z) (a : List ℕ) (inside : IsFrom net (net.offers n) a) (ended : left_from net (net.offers n) a ≡ []) where
      came_a : (r : ℕ) → IsIn r (marks net (mark net (p ∷ []) n) a) → CameBy net roles proper rises n z at_n at_z (net.lane n + 1) r
      came_a = came net roles proper rises p n at_n own z at_z a (from_points net roles proper (net.offers n) (net.lane n) a (offered_points net roles proper n) inside)

      gone : HasGone net roles proper rises n z at_n at_z (net.lane n + 1) (left_by net (opened net n) a)
      gone = record {
        later = λ k le. g.else' k (λ e. omega (arith, le, e));
        done = λ k lt s. ⊎_elim (λ e. ap (left_by net (opened net n) a) e ∙ g.here' ∙ ended) (λ m. g.else' k m ∙ below_n net roles proper rises p n at_n own k (omega (arith, lt, m))) (cases_eq k (net.lane n));
      }
        where
          g : LaneGoes n a
          g = lane_goes n a inside

      -- where z stands beside n, no role that is marked has a point there
      none_counts : net.stage (net.lane n) ≡ net.stage (net.lane z) → (r : ℕ) → Counts net roles proper rises n z at_n at_z (net.lane n + 1) r → CameBy net roles proper rises n z at_n at_z (net.lane n + 1) r → ⊥
      none_counts s r c d = ⊎_elim at_lane (λ lt. let rise = stages_rise net roles proper rises n c.point at_n c.text (let f = c.from in omega (arith, f)) in omega (arith, rise, lt, s)) c.upto
        where
          at_lane : net.lane c.point ≡ net.lane z → ⊥
          at_lane f = ⊎_elim
              (λ g. let h = one_of_stage net roles proper r d.point c.point d.text c.text d.own c.own (ap net.stage g ∙ s ∙ sym (ap net.stage f)) in let low = c.from in omega (arith, h, g, low))
              (λ b. let lt = b.0 in let lo = b.1 in ⊎_elim
              (λ e. omega (arith, lt, ap net.stage e))
              (λ m. let rise = stages_rise net roles proper rises d.point n d.text at_n (omega (arith, lo, m)) in omega (arith, rise, lt))
              (cases_eq (net.lane d.point) (net.lane n)))
              d.from

      behind : (c w : List ℕ) → Passage net n z (net.lane n + 1) w c → IsIn (net.sender z) (marks net (marks net (mark net (p ∷ []) n) a) c) → HasWalk z (a ++ c)
      behind c w passage marked = go (cases_lt (net.stage (net.lane n)) (net.stage (net.lane z)))
        where
          P : ℕ → Type 0
          P r = IsOf net r z

          M : List ℕ
          M = marks net (mark net (p ∷ []) n) a

          C : ℕ → Type 0
          C = Counts net roles proper rises n z at_n at_z (net.lane n + 1)

          agree : Agree P (marks net M w) (marks net M c)
          agree = passage_marks net roles proper rises n z at_n at_z (omega arith) passage M M (agree_same C M) came_a

          high : net.stage (net.lane n) ≤ net.stage (net.lane z)
          high = stages_rise net roles proper rises n z at_n at_z (let le = passage_low net n z passage in omega (arith, le))

          nobody : net.stage (net.lane n) ≡ net.stage (net.lane z) → ⊥
          nobody s = subst (IsIn (net.sender z)) (idle net [] w (λ x i j. j)) ((passage_marks net roles proper rises n z at_n at_z (omega arith) passage [] M (λ r k i. absurd i, λ r k i. absurd (none_counts s r k (came_a r i))) came_a).1 (net.sender z) (inl refl) marked)

          go : (net.stage (net.lane n) < net.stage (net.lane z)) ⊎ (net.stage (net.lane z) ≤ net.stage (net.lane n)) → HasWalk z (a ++ c)
          go (inl less) = record {
            points = a ++ w;
            walk = subst (IsWalk net n) (sym (append_assoc a w (z ∷ []))) (come_join net (opened net n) a (w ++ z ∷ []) (lane_goes n a inside).walk (walk_of_passage net roles proper rises n z at_n at_z passage (left_by net (opened net n) a) less (omega arith) gone));
            agree = subst (λ k. Agree (λ r. IsOf net r z) k (marks net (mark net (p ∷ []) n) (a ++ w))) (sym (marks_join net (mark net (p ∷ []) n) a c)) (subst (λ k. Agree (λ r. IsOf net r z) (marks net M c) k) (sym (marks_join net (mark net (p ∷ []) n) a w)) (agree.1, agree.0));
          }
          go (inr le) = absurd (nobody (omega (arith, high, le)))

    has_walk : (z : ℕ) (b : List ℕ) → IsLaneWalk (line net) n (b ++ z ∷ []) → IsIn (net.sender z) (marks net (mark net (p ∷ []) n) b) → HasWalk z b
    has_walk z b way marked = go (stays_at net roles proper n z b (at_place (line net) n (b ++ z ∷ []) way))
      where
        at_z : InText net z
        at_z = end_text net roles proper n z b way

        upto : net.lane n ≤ net.lane net.count
        upto = rises n net.count at_n.0 at_n.1 (omega arith)

        go : Stays net (net.lane n) z (net.offers n) b → HasWalk z b
        go (within f) = record { points = b; walk = (lane_goes n (b ++ z ∷ []) f).walk; agree = agree_same (λ r. IsOf net r z) (marks net (mark net (p ∷ []) n) b) }
        go (leaves a c e f g last r) =
            let off = off_line net roles proper rises n z at_n at_z (net.lane n + 1) (net.lane net.count - net.lane n) c (omega arith) (omega (arith, upto)) r in
            subst (HasWalk z) e (behind z at_z a f g c off.0 off.1 (subst (IsIn (net.sender z)) (ap (marks net (mark net (p ∷ []) n)) (sym e) ∙ marks_join net (mark net (p ∷ []) n) a c) marked))

    -- so where a role is first marked on a way through the line
    pub of_line : (q z : ℕ) → (q ≡ p → ⊥) → IsLaneMarkedAt (line net) p n q z → IsMarkedAt net p n q z
    of_line q z apart at' = go at'.before at'.walk.2 at'.not_yet at'.now
      where
        go : (before : List ℕ) → before ++ z ∷ at'.after ≡ n ∷ at'.walk.0 → (IsIn q (marks (line net) (p ∷ []) before) → ⊥) → IsIn q (marks (line net) (p ∷ []) (before ++ z ∷ [])) → IsMarkedAt net p n q z
        go [] e not_yet now = let f : z ≡ n = cc in record { before = []; after = []; walk = ([], tt, ap (λ x. x ∷ []) f); not_yet = not_yet; now = now }
        go (y ∷ b) e not_yet now =
            let f : y ≡ n = cc in
            let g : b ++ z ∷ at'.after ≡ at'.walk.0 = cc in
            let way : IsLaneWalk (line net) n (b ++ z ∷ []) = lane_front (line net) n (b ++ z ∷ []) at'.after (subst (IsLaneWalk (line net) n) (sym g ∙ sym (append_assoc b (z ∷ []) at'.after)) at'.walk.1) in
            let free : IsIn q (marks net (mark net (p ∷ []) n) b) → ⊥ = λ i. subst (λ x. IsIn q (marks (line net) (mark net (p ∷ []) x) b) → ⊥) f not_yet (subst (IsIn q) (sym (line_marks net (mark net (p ∷ []) n) b)) i) in
            made way free (mark_cases net (marks net (mark net (p ∷ []) n) b) z q (subst (IsIn q) (line_marks net (mark net (p ∷ []) n) (b ++ z ∷ []) ∙ marks_more net (mark net (p ∷ []) n) b z) (subst (λ x. IsIn q (marks (line net) (mark net (p ∷ []) x) (b ++ z ∷ []))) f now)))
          where
            of_walk : HasWalk z b → (IsIn q (marks net (mark net (p ∷ []) n) b) → ⊥) → (q ≡ net.receiver z) × IsIn (net.sender z) (marks net (mark net (p ∷ []) n) b) → IsMarkedAt net p n q z
            of_walk h free a = record {
              before = n ∷ h.points;
              after = [];
              walk = (h.points ++ z ∷ [], h.walk, refl);
              not_yet = λ j. free (h.agree.1 q (inr (sym a.0)) j);
              now = subst (IsIn q) (sym (marks_more net (mark net (p ∷ []) n) h.points z)) (subst (λ r. IsIn r (mark net (marks net (mark net (p ∷ []) n) h.points) z)) (sym a.0) (mark_here net (marks net (mark net (p ∷ []) n) h.points) z (h.agree.0 (net.sender z) (inl refl) a.1)));
            }

            made : IsLaneWalk (line net) n (b ++ z ∷ []) → (IsIn q (marks net (mark net (p ∷ []) n) b) → ⊥) → IsIn q (marks net (mark net (p ∷ []) n) b) ⊎ ((q ≡ net.receiver z) × IsIn (net.sender z) (marks net (mark net (p ∷ []) n) b)) → IsMarkedAt net p n q z
            made way free (inl j) = absurd (free j)
            made way free (inr a) = of_walk (has_walk z b way a.1) free a

-- the same points
pub marks_in_line : MarksAreInLine
marks_in_line net roles p n q z proper has low high own apart = (
  to_line net roles proper has.rises p n (low, high) own has.ends q z apart,
  of_line net roles proper has.rises p n (low, high) own q z apart,
)
