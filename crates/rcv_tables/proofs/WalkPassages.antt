-- A walk from n to z, sorted by lanes, is the walk's part of a passage: lanes beside are left out, or brought to their ends.
use Rattle.std.proofs.Common.{◌≡◌, ℕ, zero, suc, ◌+◌, ◌<◌, ◌≤◌, Bool, true, false, List, [], ◌∷◌, ◌++◌, refl, sym, ◌∙◌, ap, subst, ◌⊎◌, inl, inr, ⊎_elim, append_assoc, arith}
use Rattle.std.specs.Prelude.{◌==◌}
use Rattle.std.proofs.lemmas.Bool.{cases_eq, cases_lt}
use Rattle.std.proofs.lemmas.Bool.Decides.{nat_tests}
use Rattle.rcv_model.specs.Net.{Net, IsIn, opened, moved, ComeFrom, left_by, IsLaneWalk, IsLaneEnded}
use Rattle.rcv_model.specs.Next.{IsOf, LanesEnd, IsProper}
use Rattle.rcv_model.specs.Table.{marks}
use Rattle.rcv_model.proofs.Walks.{Ahead, come_front, come_back, opened_later}
use Rattle.rcv_model.proofs.Lanes.{IsLaned, left_laned, opened_laned, ended_stays, no_return}
use Rattle.rcv_model.proofs.Parted.{IsFrom, left_from}
use Rattle.rcv_tables.specs.Line.{LanesRise, is_last}
use Rattle.rcv_tables.proofs.Agreeing.{Agree, Each, agree_on, agree_less, agree_marks, marks_join, none_marked, ShareNone}
use Rattle.rcv_tables.proofs.Sorting.{Sorted, sort, of_lane, of_others, more_of_lane, more_of_others, Yields, sorted_marks, goes_in, leaves_in, goes_past, shut, shut_here, shut_else}
use Rattle.rcv_tables.proofs.Passages.{InText, Passage, arrives, skips, through, aside, begun_points, one_of_stage, stages_rise, Counts, counts_at_z, none_beside}
use Rattle.rcv_tables.proofs.PassageWalks.{last_high, shut_from_n}

pub split_at : (x : ℕ) (b : List ℕ) → IsIn x b → (a : List ℕ) × (c : List ℕ) × (a ++ x ∷ c ≡ b)
split_at x [] i = absurd i
split_at x (y ∷ b) (inl e) = ([], b, ap (λ w. w ∷ b) e)
split_at x (y ∷ b) (inr i) = let s = split_at x b i in (y ∷ s.0, s.1, ap (λ l. y ∷ l) s.2)

pub agree_back : (P : ℕ → Type 0) (m k : List ℕ) → Agree P m k → Agree P k m
agree_back P m k a = (a.1, a.0)

module _ (net : Net) (roles : ℕ) (proper : IsProper net roles) (rises : LanesRise net) (n z : ℕ) (at_n : InText net n) (at_z : InText net z) where
  -- points b and then z come, where the lanes below l are shut, and the others are as they are from n
  pub record Stands (l : ℕ) (ahead : Ahead) (b : List ℕ) : Type 0 where
    pub walk : ComeFrom net ahead (b ++ z ∷ [])
    pub below : (k : ℕ) → k < l → ahead k ≡ []
    pub rest : (k : ℕ) → l ≤ k → ahead k ≡ opened net n k

  laned : (l : ℕ) (ahead : Ahead) (b : List ℕ) → Stands l ahead b → IsLaned net ahead
  laned l ahead b s = record { in_text = λ k x i. (point k x i (cases_lt k l)).0; lane = λ k x i. (point k x i (cases_lt k l)).1 }
    where
      point : (k x : ℕ) → IsIn x (ahead k) → (k < l) ⊎ (l ≤ k) → InText net x × (net.lane x ≡ k)
      point k x i (inl lt) = absurd (subst (IsIn x) (s.below k lt) i)
      point k x i (inr le) = let o = opened_laned net roles n proper in let j = subst (IsIn x) (s.rest k le) i in (o.in_text k x j, o.lane k x j)

  -- each of these points is in the text, from lane l on, and not in a stage behind that of z
  pub point_facts : (l : ℕ) (ahead : Ahead) (b : List ℕ) → Stands l ahead b → (x : ℕ) → IsIn x b → InText net x × (l ≤ net.lane x) × (net.stage (net.lane x) ≤ net.stage (net.lane z))
  point_facts l ahead b s x i = (text, low, high)
    where
      cut : (a : List ℕ) × (c : List ℕ) × (a ++ x ∷ c ≡ b)
      cut = split_at x b i

      whole : ComeFrom net ahead (cut.0 ++ x ∷ (cut.1 ++ z ∷ []))
      whole = subst (ComeFrom net ahead) (ap (λ w. w ++ z ∷ []) (sym cut.2) ∙ append_assoc cut.0 (x ∷ cut.1) (z ∷ [])) s.walk

      offered : IsIn x (left_by net ahead cut.0 (net.lane x))
      offered = (come_back net ahead cut.0 (x ∷ (cut.1 ++ z ∷ [])) whole).0.offered

      text : InText net x
      text = (left_laned net roles ahead cut.0 proper (laned l ahead b s)).in_text (net.lane x) x offered

      low : l ≤ net.lane x
      low = ⊎_elim (λ lt. absurd (subst (IsIn x) (ended_stays net ahead cut.0 (net.lane x) (come_front net ahead cut.0 (x ∷ (cut.1 ++ z ∷ [])) whole) (s.below (net.lane x) lt)) offered)) (λ le. le) (cases_lt (net.lane x) l)

      high : net.stage (net.lane x) ≤ net.stage (net.lane z)
      high = ⊎_elim (λ lt. absurd (no_return net ahead cut.0 cut.1 [] x z whole lt)) (λ le. le) (cases_lt (net.stage (net.lane z)) (net.stage (net.lane x)))

  -- so the points of lane l may come before the others
  yields : (l : ℕ) (b : List ℕ) (ahead : Ahead) → ComeFrom net ahead b → ((x : ℕ) → IsIn x b → InText net x × (l ≤ net.lane x)) → Yields net l b
  yields l [] ahead c facts = tt
  yields l (y ∷ b) ahead c facts = (first, yields l b (moved net ahead y) c.1 (λ x i. facts x (inr i)))
    where
      first : (net.lane y ≡ l → ⊥) → (x : ℕ) → IsIn x b → net.lane x ≡ l → ShareNone net x y
      first m x i e r ox oy = m (sym (one_of_stage net roles proper r x y (facts x (inr i)).0 (facts y (inl refl)).0 ox oy same) ∙ e)
        where
          cut : (a : List ℕ) × (c : List ℕ) × (a ++ x ∷ c ≡ b)
          cut = split_at x b i

          rise : net.stage (net.lane x) ≤ net.stage (net.lane y)
          rise = stages_rise net roles proper rises x y (facts x (inr i)).0 (facts y (inl refl)).0 (let f = (facts y (inl refl)).1 in omega (arith, f, e, m))

          fall : net.stage (net.lane y) ≤ net.stage (net.lane x)
          fall = ⊎_elim (λ lt. absurd (no_return net ahead [] cut.0 cut.1 y x (subst (λ w. ComeFrom net ahead (y ∷ w)) (sym cut.2) c) lt)) (λ le. le) (cases_lt (net.stage (net.lane x)) (net.stage (net.lane y)))

          same : net.stage (net.lane x) ≡ net.stage (net.lane y)
          same = omega (arith, rise, fall)

  pub lane_marks : (l : ℕ) (ahead : Ahead) (b u v m : List ℕ) → Stands l ahead b → Sorted net l b u v → Agree Each (marks net m b) (marks net (marks net m u) v)
  lane_marks l ahead b u v m s sorted = subst (Agree Each (marks net m b)) (marks_join net m u v) (sorted_marks net l sorted m (yields l b ahead (come_front net ahead b (z ∷ []) s.walk) (λ x i. let f = point_facts l ahead b s x i in (f.0, f.1))))

  -- in the lane of z the others mark nobody who has an end of z
  pub arrival_marks : (l : ℕ) (ahead : Ahead) (b u v m : List ℕ) → l ≡ net.lane z → Stands l ahead b → Sorted net l b u v → Agree (λ r. IsOf net r z) (marks net m b) (marks net m u)
  arrival_marks l ahead b u v m e s sorted = agree_on (λ r. IsOf net r z) (marks net m b) (marks net (marks net m u) v) (marks net m u)
      (agree_less Each (λ r. IsOf net r z) (marks net m b) (marks net (marks net m u) v) (λ r o. tt) (lane_marks l ahead b u v m s sorted))
      (agree_back (λ r. IsOf net r z) (marks net m u) (marks net (marks net m u) v) (none_marked net (λ r. IsOf net r z) (marks net m u) v none))
    where
      none : (x : ℕ) → IsIn x v → IsOf net (net.receiver x) z → ⊥
      none x i o =
          let j = of_others net l sorted x i in
          let f = point_facts l ahead b s x j.0 in
          let low = f.1 in
          let high = f.2 in
          let away = j.1 in
          let rise = stages_rise net roles proper rises z x at_z f.0 (omega (arith, low, e, away)) in
          away (one_of_stage net roles proper (net.receiver x) x z f.0 at_z (inr refl) o (omega (arith, rise, high)) ∙ sym e)

  -- where lane l is beside that of z, neither do its points
  beside_marks : (l y : ℕ) (ahead : Ahead) (b u v m : List ℕ) → l < net.lane z → net.stage l ≡ net.stage (net.lane z) → InText net y → net.lane y ≡ l → Stands l ahead b → Sorted net l b u v → Agree (λ r. IsOf net r z) (marks net m b) (marks net m v)
  beside_marks l y ahead b u v m lt same t e s sorted = agree_on (λ r. IsOf net r z) (marks net m b) (marks net (marks net m u) v) (marks net m v)
      (agree_less Each (λ r. IsOf net r z) (marks net m b) (marks net (marks net m u) v) (λ r o. tt) (lane_marks l ahead b u v m s sorted))
      (agree_less Now (λ r. IsOf net r z) (marks net (marks net m u) v) (marks net m v) (λ r o. counts_at_z net roles proper rises n z at_n at_z (l + 1) r (omega (arith, lt)) o)
      (agree_marks net Now (marks net m u) m v (agree_back Now m (marks net m u) (none_marked net Now m u none)) each))
    where
      Now : ℕ → Type 0
      Now = Counts net roles proper rises n z at_n at_z (l + 1)

      none : (x : ℕ) → IsIn x u → Now (net.receiver x) → ⊥
      none x i c = let j = of_lane net l sorted x i in none_beside net roles proper rises n z at_n at_z l x (net.receiver x) (point_facts l ahead b s x j.0).0 j.1 same (inr refl) c

      each : (x : ℕ) → IsIn x v → Now (net.sender x) ⊎ (Now (net.receiver x) → ⊥)
      each x i = go (cases_eq (net.lane x) (net.lane z)) (cases_lt (net.stage (net.lane x)) (net.stage (net.lane z)))
        where
          j : IsIn x b × (net.lane x ≡ l → ⊥)
          j = of_others net l sorted x i

          f : InText net x × (l ≤ net.lane x) × (net.stage (net.lane x) ≤ net.stage (net.lane z))
          f = point_facts l ahead b s x j.0

          above : l + 1 ≤ net.lane x
          above = let a = f.1 in let d = j.1 in omega (arith, a, d)

          go : (net.lane x ≡ net.lane z) ⊎ (net.lane x ≡ net.lane z → ⊥) → (net.stage (net.lane x) < net.stage (net.lane z)) ⊎ (net.stage (net.lane z) ≤ net.stage (net.lane x)) → Now (net.sender x) ⊎ (Now (net.receiver x) → ⊥)
          go (inl g) d = inl (record { point = x; text = f.0; own = inl refl; from = above; upto = inl g })
          go (inr g) (inl less) = inl (record { point = x; text = f.0; own = inl refl; from = above; upto = inr less })
          go (inr g) (inr le) = inr (λ c. ⊎_elim
              (λ h. let high = f.2 in g (one_of_stage net roles proper (net.receiver x) x c.point f.0 c.text (inr refl) c.own (omega (arith, high, le, ap net.stage h)) ∙ h))
              (λ less. let rise = stages_rise net roles proper rises y c.point t c.text (let a = c.from in omega (arith, a, e)) in omega (arith, rise, less, same, ap net.stage e))
              c.upto)

  -- what stands where lane l is taken out, or where it is shut
  pub taken_out : (l : ℕ) (ahead : Ahead) (b u v : List ℕ) → (net.lane z ≡ l → ⊥) → Stands l ahead b → Sorted net l b u v → Stands (l + 1) (shut ahead l) v
  taken_out l ahead b u v other s sorted = record {
    walk = goes_past net l (more_of_others net l sorted z other) ahead (shut ahead l) (λ k m. shut_else ahead l k m) (shut_here ahead l l refl) s.walk;
    below = λ k lt. ⊎_elim (λ e. shut_here ahead l k e) (λ m. shut_else ahead l k m ∙ s.below k (omega (arith, lt, m))) (cases_eq k l);
    rest = λ k le. shut_else ahead l k (λ e. omega (arith, le, e)) ∙ s.rest k (omega (arith, le));
  }

  passed_by : (l : ℕ) (ahead : Ahead) (b : List ℕ) → opened net n l ≡ [] → Stands l ahead b → Stands (l + 1) ahead b
  passed_by l ahead b e s = record {
    walk = s.walk;
    below = λ k lt. ⊎_elim (λ f. ap ahead f ∙ s.rest l (omega arith) ∙ e) (λ m. s.below k (omega (arith, lt, m))) (cases_eq k l);
    rest = λ k le. s.rest k (omega (arith, le));
  }

  -- a lane of a stage before that of z is ended
  pub ended_before : (l : ℕ) (ahead : Ahead) (b u v : List ℕ) → net.stage l < net.stage (net.lane z) → Stands l ahead b → Sorted net l b u v → left_from net (ahead l) u ≡ []
  ended_before l ahead b u v lt s sorted = sym (leaves_in net l sorted ahead) ∙ (come_back net ahead b (z ∷ []) s.walk).0.ended l lt

  -- a passage that marks the roles of z as these points do
  pub record Found (l : ℕ) (b m : List ℕ) : Type 0 where
    pub w : List ℕ
    pub v : List ℕ
    pub passage : Passage net n z l w v
    pub agree : Agree (λ r. IsOf net r z) (marks net m b) (marks net m w)

  module _ (ends : LanesEnd net) where
    -- a lane that isn't of the last stage can be brought to its end
    complete : (l y : ℕ) → IsIn y (net.begins l) → is_last net l ≡ false → (c : List ℕ) × IsFrom net (net.begins l) (y ∷ c) × (left_from net (net.begins l) (y ∷ c) ≡ [])
    complete l y i last = (c.0, (i, c.1), c.2)
      where
        t : InText net y × (net.lane y ≡ l)
        t = begun_points net roles proper l y i

        other : net.stage l ≡ net.stage (net.lane net.count) → ⊥
        other e = let f : (net.stage l == net.stage (net.lane net.count)) ≡ false = last in absurd (grind (arith, nat_tests))

        high : net.stage (net.lane y) ≤ net.stage (net.lane net.count)
        high = proper.lanes.in_order y net.count t.0.0 t.0.1 (omega arith)

        later : net.stage (net.lane y) < net.stage (net.lane net.count)
        later = omega (arith, high, λ (e : net.stage (net.lane y) ≡ net.stage (net.lane net.count)). other (sym (ap net.stage t.1) ∙ e))

        c : (c : List ℕ) × IsLaneWalk net y c × IsLaneEnded net y c
        c = ends y t.0.0 t.0.1 (net.count, (let a = t.0.0 in let b = t.0.1 in omega (arith, a, b)), omega arith, later)

    pub passage_of : (d l : ℕ) (ahead : Ahead) (b m : List ℕ) → l + d ≡ net.lane z → net.stage (net.lane n) < net.stage (net.lane z) → net.lane n < l → Stands l ahead b → Found l b m
    passage_of zero l ahead b m g lt above s = go (sort net l b)
      where
        e : l ≡ net.lane z
        e = omega (arith, g)

        begins : ahead l ≡ net.begins l
        begins = s.rest l (omega arith) ∙ opened_later net n l (λ d. omega (arith, d, above)) (subst (λ k. net.stage (net.lane n) < net.stage k) (sym e) lt)

        go : (u : List ℕ) × (v : List ℕ) × Sorted net l b u v → Found l b m
        go c = record {
          w = c.0;
          v = c.0;
          passage = arrives e (subst (λ ps. IsFrom net ps (c.0 ++ z ∷ [])) begins (goes_in net l (more_of_lane net l c.2 z (sym e)) ahead s.walk));
          agree = arrival_marks l ahead b c.0 c.1 m e s c.2;
        }
    passage_of (suc d) l ahead b m g lt above s = by_begins (net.begins l) refl (λ ahead' b' m' s'. passage_of d (l + 1) ahead' b' m' (omega (arith, g)) lt (omega (arith, above)) s')
      where
        Behind : Type 0
        Behind = (ahead' : Ahead) (b' m' : List ℕ) → Stands (l + 1) ahead' b' → Found (l + 1) b' m'

        before : l < net.lane z
        before = omega (arith, g)

        other : net.lane z ≡ l → ⊥
        other e = omega (arith, e, before)

        skipped : (net.begins l ≡ []) → Found (l + 1) b m → Found l b m
        skipped e f = record { w = f.w; v = f.v; passage = skips (inl e) f.passage; agree = f.agree }

        -- a lane beside that of z is taken out
        beside : (y : ℕ) → IsIn y (net.begins l) → net.stage l ≡ net.stage (net.lane z) → (u v : List ℕ) → Sorted net l b u v → (f : Found (l + 1) v m) → Agree (λ r. IsOf net r z) (marks net m b) (marks net m f.w)
        beside y i same u v sorted f = let t = begun_points net roles proper l y i in agree_on (λ r. IsOf net r z) (marks net m b) (marks net m v) (marks net m f.w) (beside_marks l y ahead b u v m before same t.0 t.1 s sorted) f.agree

        by_stage : (y : ℕ) → IsIn y (net.begins l) → is_last net l ≡ false → (net.stage l ≡ net.stage (net.lane n)) ⊎ (net.stage l ≡ net.stage (net.lane n) → ⊥) → (net.stage l < net.stage (net.lane z)) ⊎ (net.stage (net.lane z) ≤ net.stage l) → net.stage (net.lane n) ≤ net.stage l → net.stage l ≤ net.stage (net.lane z) → (u : List ℕ) × (v : List ℕ) × Sorted net l b u v → Behind → Found l b m
        by_stage y i last (inl same) less low high c ih =
            let f = ih ahead b m (passed_by l ahead b (shut_from_n net roles proper rises n z at_n at_z l above (inr same)) s) in
            let k = complete l y i last in
            record { w = f.w; v = (y ∷ k.0) ++ f.v; passage = aside (y ∷ k.0) (inl same) last k.1 k.2 f.passage; agree = f.agree }
        by_stage y i last (inr m') (inl less) low high c ih =
            let from : net.stage (net.lane n) < net.stage l = omega (arith, low, m') in
            let f = ih (shut ahead l) c.1 (marks net m c.0) (taken_out l ahead b c.0 c.1 other s c.2) in
            let begins = s.rest l (omega arith) ∙ opened_later net n l (λ d. omega (arith, d, above)) from in
            record {
              w = c.0 ++ f.w;
              v = c.0 ++ f.v;
              passage = through c.0 from less last (subst (λ ps. IsFrom net ps c.0) begins (goes_in net l c.2 ahead (come_front net ahead b (z ∷ []) s.walk))) (subst (λ ps. left_from net ps c.0 ≡ []) begins (ended_before l ahead b c.0 c.1 less s c.2)) f.passage;
              agree = subst (Agree (λ r. IsOf net r z) (marks net m b)) (sym (marks_join net m c.0 f.w)) (agree_on (λ r. IsOf net r z) (marks net m b) (marks net (marks net m c.0) c.1) (marks net (marks net m c.0) f.w) (agree_less Each (λ r. IsOf net r z) (marks net m b) (marks net (marks net m c.0) c.1) (λ r o. tt) (lane_marks l ahead b c.0 c.1 m s c.2)) f.agree);
            }
        by_stage y i last (inr m') (inr le) low high c ih =
            let same : net.stage l ≡ net.stage (net.lane z) = omega (arith, high, le) in
            let f = ih (shut ahead l) c.1 m (taken_out l ahead b c.0 c.1 other s c.2) in
            let k = complete l y i last in
            record { w = f.w; v = (y ∷ k.0) ++ f.v; passage = aside (y ∷ k.0) (inr (omega (arith, low, m'), λ e. other (sym e), same)) last k.1 k.2 f.passage; agree = beside y i same c.0 c.1 c.2 f }

        by_last : (y : ℕ) → IsIn y (net.begins l) → (t : Bool) → is_last net l ≡ t → (u : List ℕ) × (v : List ℕ) × Sorted net l b u v → Behind → Found l b m
        by_last y i t last c ih = go t last
          where
            a : InText net y × (net.lane y ≡ l)
            a = begun_points net roles proper l y i

            low : net.stage (net.lane n) ≤ net.stage l
            low = subst (λ k. net.stage (net.lane n) ≤ net.stage k) a.1 (stages_rise net roles proper rises n y at_n a.0 (subst (λ k. net.lane n < k) (sym a.1) above))

            high : net.stage l ≤ net.stage (net.lane z)
            high = subst (λ k. net.stage k ≤ net.stage (net.lane z)) a.1 (stages_rise net roles proper rises y z a.0 at_z (subst (λ k. k < net.lane z) (sym a.1) before))

            go : (t : Bool) → is_last net l ≡ t → Found l b m
            go true e =
                let h = last_high net roles l z proper at_z e in
                let same : net.stage l ≡ net.stage (net.lane z) = omega (arith, high, h) in
                let f = ih (shut ahead l) c.1 m (taken_out l ahead b c.0 c.1 other s c.2) in
                record { w = f.w; v = f.v; passage = skips (inr e) f.passage; agree = beside y i same c.0 c.1 c.2 f }
            go false e = by_stage y i e (cases_eq (net.stage l) (net.stage (net.lane n))) (cases_lt (net.stage l) (net.stage (net.lane z))) low high c ih

        by_begins : (ps : List ℕ) → net.begins l ≡ ps → Behind → Found l b m
        by_begins [] e ih = skipped e (ih ahead b m (passed_by l ahead b (shut_from_n net roles proper rises n z at_n at_z l above (inl e)) s))
        by_begins (y ∷ ps) e ih = by_last y (subst (IsIn y) (sym e) (inl refl)) (is_last net l) refl (sort net l b) ih
