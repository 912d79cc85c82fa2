-- The walk's part of a passage is a walk from n, where z stands in a later stage.
use Rattle.std.proofs.Common.{◌≡◌, ℕ, ◌+◌, ◌<◌, ◌≤◌, true, List, [], ◌∷◌, ◌++◌, refl, sym, ◌∙◌, ap, subst, ◌⊎◌, inl, inr, ⊎_elim, append_assoc, arith}
use Rattle.std.proofs.lemmas.Bool.{cases_eq, cases_lt}
use Rattle.std.proofs.lemmas.Bool.Decides.{nat_tests}
use Rattle.rcv_model.specs.Net.{Net, IsIn, opened, MayCome, ComeFrom, left_by}
use Rattle.rcv_model.specs.Next.{IsProper}
use Rattle.rcv_model.proofs.Walks.{Ahead, come_join, opened_later}
use Rattle.rcv_model.proofs.Lanes.{opened_laned, Opens, at_own, at_later, at_shut, opens}
use Rattle.rcv_model.proofs.Completing.{ComesInLane, comes_in_lane}
use Rattle.rcv_model.proofs.Parted.{IsFrom, left_from}
use Rattle.rcv_tables.specs.Line.{LanesRise, is_last}
use Rattle.rcv_tables.proofs.Passages.{InText, Passage, arrives, skips, through, aside, begun_points, stages_rise}

-- the last stage isn't before that of a point
pub last_high : (net : Net) (roles l z : ℕ) → IsProper net roles → InText net z → is_last net l ≡ true → net.stage (net.lane z) ≤ net.stage l
last_high net roles l z proper at_z t =
    let o = proper.lanes.in_order z net.count at_z.0 at_z.1 (omega arith) in
    let e : net.stage l ≡ net.stage (net.lane net.count) = grind (arith, nat_tests) in
    omega (arith, o, e)

module _ (net : Net) (roles : ℕ) (proper : IsProper net roles) (rises : LanesRise net) (n z : ℕ) (at_n : InText net n) (at_z : InText net z) where
  -- what a walk from n has left, where it has gone through the lanes below l
  pub record HasGone (l : ℕ) (ahead : Ahead) : Type 0 where
    pub later : (k : ℕ) → l ≤ k → ahead k ≡ opened net n k
    pub done : (k : ℕ) → k < l → net.stage k < net.stage (net.lane z) → ahead k ≡ []

  gone_on : (l : ℕ) (ahead : Ahead) → (net.stage l < net.stage (net.lane z) → ahead l ≡ []) → HasGone l ahead → HasGone (l + 1) ahead
  gone_on l ahead e g = record {
    later = λ k le. g.later k (omega (arith, le));
    done = λ k lt s. ⊎_elim (λ f. ap ahead f ∙ e (subst (λ j. net.stage j < net.stage (net.lane z)) f s)) (λ m. g.done k (omega (arith, lt, m)) s) (cases_eq k l);
  }

  -- lanes of earlier stages than that of a lane that has a point are ended
  earlier : (l y : ℕ) (ahead : Ahead) → HasGone l ahead → InText net y → net.lane y ≡ l → net.stage l ≤ net.stage (net.lane z) → (k : ℕ) → net.stage k < net.stage l → ahead k ≡ []
  earlier l y ahead g t e high k lt = ⊎_elim (λ less. g.done k less (omega (arith, lt, high))) (λ le. g.later k le ∙ none le (opened net n k) refl) (cases_lt k l)
    where
      none : l ≤ k → (ps : List ℕ) → opened net n k ≡ ps → opened net n k ≡ []
      none le [] f = f
      none le (x ∷ ps) f =
          let laned = opened_laned net roles n proper in
          let i : IsIn x (opened net n k) = subst (IsIn x) (sym f) (inl refl) in
          let a = laned.in_text k x i in
          let b = laned.lane k x i in
          let other : k ≡ l → ⊥ = (λ d. omega (arith, lt, ap net.stage d)) in
          let c = stages_rise net roles proper rises y x t a (omega (arith, le, b, e, other)) in
          absurd (omega (arith, c, lt, ap net.stage b, ap net.stage e))

  -- a way within a lane, as a part of a walk
  record LaneComes (ahead : Ahead) (l : ℕ) (u : List ℕ) : Type 0 where
    walk : ComeFrom net ahead u
    here' : left_by net ahead u l ≡ left_from net (net.begins l) u
    else' : (k : ℕ) → (k ≡ l → ⊥) → left_by net ahead u k ≡ ahead k

  lane_comes : (l : ℕ) (ahead : Ahead) (u : List ℕ) → HasGone l ahead → ahead l ≡ net.begins l → net.stage l ≤ net.stage (net.lane z) → IsFrom net (net.begins l) u → LaneComes ahead l u
  lane_comes l ahead [] g e high f = record { walk = tt; here' = e; else' = λ k m. refl }
  lane_comes l ahead (x ∷ u) g e high f = record { walk = c.walk; here' = ap (left_by net ahead (x ∷ u)) (sym t.1) ∙ c.here'; else' = λ k m. c.else' k (λ d. m (d ∙ t.1)) }
    where
      t : InText net x × (net.lane x ≡ l)
      t = begun_points net roles proper l x f.0

      may : MayCome net ahead x
      may = record {
        offered = subst (λ k. IsIn x (ahead k)) (sym t.1) (subst (IsIn x) (sym e) f.0);
        ended = λ k lt. earlier l x ahead g t.0 t.1 high k (subst (λ j. net.stage k < net.stage j) t.1 lt);
      }

      c : ComesInLane net ahead x u
      c = comes_in_lane net roles ahead x u proper may f.1

  -- lanes that a walk from n doesn't go through
  pub shut_from_n : (l : ℕ) → net.lane n < l → (net.begins l ≡ []) ⊎ (net.stage l ≡ net.stage (net.lane n)) → opened net n l ≡ []
  shut_from_n l above d = go (opens net n l)
    where
      go : Opens net n l → opened net n l ≡ []
      go (at_own e f) = absurd (omega (arith, e, above))
      go (at_later m lt f) = ⊎_elim (λ e. f ∙ e) (λ s. absurd (omega (arith, lt, s))) d
      go (at_shut m k f) = f

  pub walk_of_passage : {l : ℕ} {w v : List ℕ} → Passage net n z l w v → (ahead : Ahead) → net.stage (net.lane n) < net.stage (net.lane z) → net.lane n < l → HasGone l ahead → ComeFrom net ahead (w ++ z ∷ [])
  walk_of_passage (arrives {l = l} {u = u} e f) ahead lt above g = (lane_comes l ahead (u ++ z ∷ []) g (g.later l (omega arith) ∙ opened_later net n l (λ d. omega (arith, d, above)) (subst (λ k. net.stage (net.lane n) < net.stage k) (sym e) lt)) (omega (arith, ap net.stage e)) f).walk
  walk_of_passage (skips {l = l} (inl e) p) ahead lt above g = walk_of_passage p ahead lt (omega (arith, above)) (gone_on l ahead (λ s. g.later l (omega arith) ∙ shut_from_n l above (inl e)) g)
  walk_of_passage (skips {l = l} (inr t) p) ahead lt above g = walk_of_passage p ahead lt (omega (arith, above)) (gone_on l ahead (λ s. let h = last_high net roles l z proper at_z t in absurd (omega (arith, h, s))) g)
  walk_of_passage (through {l = l} {w = w} u from upto last f e p) ahead lt above g = subst (ComeFrom net ahead) (sym (append_assoc u w (z ∷ []))) (come_join net ahead u (w ++ z ∷ []) c.walk (walk_of_passage p (left_by net ahead u) lt (omega (arith, above)) next))
    where
      c : LaneComes ahead l u
      c = lane_comes l ahead u g (g.later l (omega arith) ∙ opened_later net n l (λ d. omega (arith, d, above)) from) (omega (arith, upto)) f

      next : HasGone (l + 1) (left_by net ahead u)
      next = record {
        later = λ k le. c.else' k (λ d. omega (arith, le, d)) ∙ g.later k (omega (arith, le));
        done = λ k less s. ⊎_elim (λ d. ap (left_by net ahead u) d ∙ c.here' ∙ e) (λ m. c.else' k m ∙ g.done k (omega (arith, less, m)) s) (cases_eq k l);
      }
  walk_of_passage (aside {l = l} u (inl s) last f e p) ahead lt above g = walk_of_passage p ahead lt (omega (arith, above)) (gone_on l ahead (λ k. g.later l (omega arith) ∙ shut_from_n l above (inr s)) g)
  walk_of_passage (aside {l = l} u (inr s) last f e p) ahead lt above g = walk_of_passage p ahead lt (omega (arith, above)) (gone_on l ahead (λ k. absurd (omega (arith, k, s.2))) g)
