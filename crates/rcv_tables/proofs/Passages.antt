-- The way from the start of a lane on to a point: as a walk from n has it, and as the line does. Both mark the same roles.
use Rattle.std.proofs.Common.{◌≡◌, ℕ, ◌+◌, ◌<◌, ◌≤◌, true, false, List, [], ◌∷◌, ◌++◌, refl, sym, ◌∙◌, ap, subst, ◌⊎◌, inl, inr, ⊎_elim, arith}
use Rattle.std.proofs.lemmas.Bool.{cases_lt}
use Rattle.rcv_model.specs.Net.{Net, IsIn, IsLaneWalk}
use Rattle.rcv_model.specs.Next.{IsOf, IsProper}
use Rattle.rcv_model.specs.Table.{marks}
use Rattle.rcv_model.proofs.Parted.{IsFrom, left_from}
use Rattle.rcv_points.proofs.Finding.{in_left}
use Rattle.rcv_tables.specs.Line.{LanesRise, is_last}
use Rattle.rcv_tables.proofs.Agreeing.{Agree, agree_on, agree_less, agree_marks, marks_join, marked_by, none_marked, idle}

abbrev pub InText : Net → ℕ → Type 0
InText net x = (1 ≤ x) × (x ≤ net.count)

-- the lane stands beside that of n, or beside that of z in a later stage
abbrev pub IsBeside : Net → ℕ → ℕ → ℕ → Type 0
IsBeside net n z l =
    (net.stage l ≡ net.stage (net.lane n)) ⊎ ((net.stage (net.lane n) < net.stage l) × (l ≡ net.lane z → ⊥) × (net.stage l ≡ net.stage (net.lane z)))

-- From the start of lane l on to z: the points w that a walk from n has before z, and the points v that the line has. Both go
-- through each lane of a stage between to its end. Lanes beside that of n or z only the line goes through, if they aren't of
-- the last stage: these neither goes through.
pub data Passage (net : Net) (n z : ℕ) : ℕ → List ℕ → List ℕ → Type 0 where
  arrives : {l : ℕ} {u : List ℕ} → l ≡ net.lane z → IsFrom net (net.begins l) (u ++ z ∷ []) → Passage net n z l u u
  skips : {l : ℕ} {w v : List ℕ} → (net.begins l ≡ []) ⊎ (is_last net l ≡ true) → Passage net n z (l + 1) w v → Passage net n z l w v
  through : {l : ℕ} {w v : List ℕ} (u : List ℕ) → net.stage (net.lane n) < net.stage l → net.stage l < net.stage (net.lane z) → is_last net l ≡ false
      → IsFrom net (net.begins l) u → left_from net (net.begins l) u ≡ [] → Passage net n z (l + 1) w v → Passage net n z l (u ++ w) (u ++ v)
  aside : {l : ℕ} {w v : List ℕ} (u : List ℕ) → IsBeside net n z l → is_last net l ≡ false → IsFrom net (net.begins l) u
      → left_from net (net.begins l) u ≡ [] → Passage net n z (l + 1) w v → Passage net n z l w (u ++ v)

-- a passage begins at the lane of z or before it
pub passage_low : (net : Net) (n z : ℕ) {l : ℕ} {w v : List ℕ} → Passage net n z l w v → l ≤ net.lane z
passage_low net n z (arrives e f) = omega (arith, e)
passage_low net n z (skips d p) = let ih = passage_low net n z p in omega (arith, ih)
passage_low net n z (through u a b c f e p) = let ih = passage_low net n z p in omega (arith, ih)
passage_low net n z (aside u a c f e p) = let ih = passage_low net n z p in omega (arith, ih)

module _ (net : Net) (roles : ℕ) (proper : IsProper net roles) where
  -- the points of a way within a lane
  lane_points : (k l : ℕ) (u : List ℕ) → IsLaneWalk net k u → net.lane k ≡ l → (x : ℕ) → IsIn x u → InText net x × (net.lane x ≡ l)
  lane_points k l [] w e x i = absurd i
  lane_points k l (y ∷ u) w e x (inl f) = subst (λ a. InText net a × (net.lane a ≡ l)) (sym f) (proper.in_text k y w.0, proper.lanes.kept k y w.0 ∙ e)
  lane_points k l (y ∷ u) w e x (inr i) = lane_points y l u w.1 (proper.lanes.kept k y w.0 ∙ e) x i

  pub from_points : (ps : List ℕ) (l : ℕ) (u : List ℕ) → ((x : ℕ) → IsIn x ps → InText net x × (net.lane x ≡ l)) → IsFrom net ps u → (x : ℕ) → IsIn x u → InText net x × (net.lane x ≡ l)
  from_points ps l [] are f x i = absurd i
  from_points ps l (y ∷ u) are f x (inl e) = subst (λ a. InText net a × (net.lane a ≡ l)) (sym e) (are y f.0)
  from_points ps l (y ∷ u) are f x (inr i) = lane_points y l u f.1 (are y f.0).1 x i

  pub begun_points : (l x : ℕ) → IsIn x (net.begins l) → InText net x × (net.lane x ≡ l)
  begun_points l x i = (proper.begun_in_text l x i, proper.lanes.begun l x i)

  pub offered_points : (k x : ℕ) → IsIn x (net.offers k) → InText net x × (net.lane x ≡ net.lane k)
  offered_points k x i = (proper.in_text k x i, proper.lanes.kept k x i)

  -- a role has one lane in a stage
  pub one_of_stage : (r x y : ℕ) → InText net x → InText net y → IsOf net r x → IsOf net r y → net.stage (net.lane x) ≡ net.stage (net.lane y) → net.lane x ≡ net.lane y
  one_of_stage r x y tx ty ox oy e = proper.lanes.one_lane r x y tx.0 tx.1 ty.0 ty.1 ox oy e

  module _ (rises : LanesRise net) where
    -- stages rise with the lanes
    pub stages_rise : (a b : ℕ) → InText net a → InText net b → net.lane a < net.lane b → net.stage (net.lane a) ≤ net.stage (net.lane b)
    stages_rise a b ta tb lt = ⊎_elim
        (λ less. proper.lanes.in_order a b ta.0 (omega (arith, less)) tb.1)
        (λ le. let r = rises b a tb.0 le ta.1 in absurd (omega (arith, r, lt)))
        (cases_lt a b)

    module _ (n z : ℕ) (at_n : InText net n) (at_z : InText net z) where
      -- a role counts from lane l on, if it has a point from there on in the lane of z or in a stage before it
      pub record Counts (l r : ℕ) : Type 0 where
        pub point : ℕ
        pub text : InText net point
        pub own : IsOf net r point
        pub from : l ≤ net.lane point
        pub upto : (net.lane point ≡ net.lane z) ⊎ (net.stage (net.lane point) < net.stage (net.lane z))

      pub counts_less : (l r : ℕ) → Counts (l + 1) r → Counts l r
      counts_less l r c = record { point = c.point; text = c.text; own = c.own; from = (let f = c.from in omega (arith, f)); upto = c.upto }

      pub counts_at_z : (l r : ℕ) → l ≤ net.lane z → IsOf net r z → Counts l r
      counts_at_z l r le o = record { point = z; text = at_z; own = o; from = le; upto = inl refl }

      -- where the roles that are marked come from
      pub record CameBy (l r : ℕ) : Type 0 where
        pub point : ℕ
        pub text : InText net point
        pub own : IsOf net r point
        pub from : (net.lane point ≡ net.lane n) ⊎ ((net.stage (net.lane n) < net.stage (net.lane point)) × (net.lane point < l))

      came_more : (l r : ℕ) → CameBy l r → CameBy (l + 1) r
      came_more l r c = record { point = c.point; text = c.text; own = c.own; from = ⊎_elim (λ e. inl e) (λ a. inr (a.0, let f = a.1 in omega (arith, f))) c.from }

      -- behind points of a later lane
      came_on : (l : ℕ) (k u : List ℕ) → ((r : ℕ) → IsIn r k → CameBy l r) → net.stage (net.lane n) < net.stage l → ((x : ℕ) → IsIn x u → InText net x × (net.lane x ≡ l)) → (r : ℕ) → IsIn r (marks net k u) → CameBy (l + 1) r
      came_on l k u came lt are r i = ⊎_elim
          (λ j. came_more l r (came r j))
          (λ a. let t = are a.0 a.1 in record { point = a.0; text = t.0; own = inr (sym a.2); from = inr (subst (λ s. net.stage (net.lane n) < net.stage s) (sym t.1) lt, let f = t.1 in omega (arith, f)) })
          (marked_by net k u r i)

      -- a role that counts behind a lane beside that of z has no point in it
      pub none_beside : (l x r : ℕ) → InText net x → net.lane x ≡ l → net.stage l ≡ net.stage (net.lane z) → IsOf net r x → Counts (l + 1) r → ⊥
      none_beside l x r t e s o c = ⊎_elim
          (λ f. let g = one_of_stage r x c.point t c.text o c.own (ap net.stage e ∙ s ∙ sym (ap net.stage f)) in let h = c.from in omega (arith, g, h, e))
          (λ lt. let g = stages_rise x c.point t c.text (let h = c.from in omega (arith, h, e)) in omega (arith, g, lt, ap net.stage e, s))
          c.upto

      -- no marked role has a point in a lane beside that of n
      idle_beside : (l x r : ℕ) → net.lane n < l → InText net x → net.lane x ≡ l → net.stage l ≡ net.stage (net.lane n) → IsOf net r x → CameBy l r → ⊥
      idle_beside l x r lt t e s o c = ⊎_elim
          (λ f. let g = one_of_stage r x c.point t c.text o c.own (ap net.stage e ∙ s ∙ sym (ap net.stage f)) in omega (arith, g, f, e, lt))
          (λ a. let g = stages_rise c.point x c.text t (let h = a.1 in omega (arith, h, e)) in let b = a.0 in omega (arith, g, b, ap net.stage e, s))
          c.from

      -- both parts of a passage mark the same roles of z
      pub passage_marks : {l : ℕ} {w v : List ℕ} → net.lane n < l → Passage net n z l w v → (m k : List ℕ) → Agree (Counts l) m k → ((r : ℕ) → IsIn r k → CameBy l r) → Agree (λ r. IsOf net r z) (marks net m w) (marks net k v)
      passage_marks above (arrives {l = l} {u = u} e f) m k agree came =
          agree_less (Counts l) (λ r. IsOf net r z) (marks net m u) (marks net k u) (λ r o. counts_at_z l r (omega (arith, e)) o)
          (agree_marks net (Counts l) m k u agree (λ x i. let t = from_points (net.begins l) l (u ++ z ∷ []) (begun_points l) f x (in_left x u (z ∷ []) i) in inl (record { point = x; text = t.0; own = inl refl; from = (let g = t.1 in omega (arith, g)); upto = inl (t.1 ∙ e) })))
      passage_marks above (skips {l = l} d p) m k agree came =
          passage_marks (omega (arith, above)) p m k (agree_less (Counts l) (Counts (l + 1)) m k (counts_less l) agree) (λ r i. came_more l r (came r i))
      passage_marks above (through {l = l} {w = w} {v = v} u from upto last f e p) m k agree came =
          subst (λ a. Agree (λ r. IsOf net r z) a (marks net k (u ++ v))) (sym (marks_join net m u w))
          (subst (λ a. Agree (λ r. IsOf net r z) (marks net (marks net m u) w) a) (sym (marks_join net k u v))
          (passage_marks (omega (arith, above)) p (marks net m u) (marks net k u)
          (agree_less (Counts l) (Counts (l + 1)) (marks net m u) (marks net k u) (counts_less l) (agree_marks net (Counts l) m k u agree (λ x i. let t = are x i in inl (record { point = x; text = t.0; own = inl refl; from = (let g = t.1 in omega (arith, g)); upto = inr (subst (λ s. net.stage s < net.stage (net.lane z)) (sym t.1) upto) }))))
          (came_on l k u came from are)))
        where
          are : (x : ℕ) → IsIn x u → InText net x × (net.lane x ≡ l)
          are = from_points (net.begins l) l u (begun_points l) f
      passage_marks above (aside {l = l} {w = w} {v = v} u (inl s) last f e p) m k agree came =
          subst (λ a. Agree (λ r. IsOf net r z) (marks net m w) a) (sym (marks_join net k u v))
          (subst (λ a. Agree (λ r. IsOf net r z) (marks net m w) (marks net a v)) (sym none')
          (passage_marks (omega (arith, above)) p m k (agree_less (Counts l) (Counts (l + 1)) m k (counts_less l) agree) (λ r i. came_more l r (came r i))))
        where
          none' : marks net k u ≡ k
          none' = idle net k u (λ x i j. let t = from_points (net.begins l) l u (begun_points l) f x i in idle_beside l x (net.sender x) above t.0 t.1 s (inl refl) (came (net.sender x) j))
      passage_marks above (aside {l = l} {w = w} {v = v} u (inr s) last f e p) m k agree came =
          subst (λ a. Agree (λ r. IsOf net r z) (marks net m w) a) (sym (marks_join net k u v))
          (passage_marks (omega (arith, above)) p m (marks net k u)
          (agree_on (Counts (l + 1)) m k (marks net k u) (agree_less (Counts l) (Counts (l + 1)) m k (counts_less l) agree) (none_marked net (Counts (l + 1)) k u (λ x i c. let t = are x i in none_beside l x (net.receiver x) t.0 t.1 s.2 (inr refl) c)))
          (came_on l k u came s.0 are))
        where
          are : (x : ℕ) → IsIn x u → InText net x × (net.lane x ≡ l)
          are = from_points (net.begins l) l u (begun_points l) f
