-- The line's part of a passage is a way through the line, and each way to a point is one.
use Rattle.std.proofs.Common.{◌≡◌, ℕ, zero, suc, ◌+◌, ◌<◌, ◌≤◌, Bool, true, false, List, [], ◌∷◌, ◌++◌, refl, sym, ◌∙◌, ap, subst, ◌⊎◌, inl, inr, ⊎_elim, append_assoc, arith}
use Rattle.std.specs.Prelude.{if◌then◌else◌}
use Rattle.std.specs.List.{range_with_len}
use Rattle.std.proofs.lemmas.Bool.{cases_eq, cases_lt}
use Rattle.rcv_model.specs.Net.{Net, IsIn, IsLaneWalk, last_of}
use Rattle.rcv_model.specs.Next.{IsProper}
use Rattle.rcv_model.specs.Places.{union}
use Rattle.rcv_model.proofs.Walks.{lane_join}
use Rattle.rcv_model.proofs.PlacesLemmas.{union_left, union_right, union_only}
use Rattle.rcv_model.proofs.Parted.{IsFrom, left_from}
use Rattle.rcv_points.proofs.Finding.{in_right}
use Rattle.rcv_tables.specs.Line.{LanesRise, is_last, or_else, offered_from, lanes_after, offered_after, line}
use Rattle.rcv_tables.proofs.Sorting.{from_place, left_place}
use Rattle.rcv_tables.proofs.Passages.{InText, Passage, arrives, skips, through, aside, passage_low, from_points, begun_points, stages_rise}

some_offered : (ps qs : List ℕ) (x : ℕ) → IsIn x ps → IsIn x (or_else ps qs)
some_offered [] qs x i = absurd i
some_offered (y ∷ ps) qs x i = i

from_more : (net : Net) (ps qs u : List ℕ) → ((x : ℕ) → IsIn x ps → IsIn x qs) → IsFrom net ps u → IsFrom net qs u
from_more net ps qs [] g f = tt
from_more net ps qs (x ∷ u) g f = (g x f.0, f.1)

from_either : (net : Net) (ps qs u : List ℕ) → IsFrom net (union ps qs) u → IsFrom net ps u ⊎ IsFrom net qs u
from_either net ps qs [] f = inl tt
from_either net ps qs (x ∷ u) f = ⊎_elim (λ i. inl (i, f.1)) (λ i. inr (i, f.1)) (union_only x ps qs f.0)

none_from : (net : Net) (v : List ℕ) (z : ℕ) → IsFrom net [] (v ++ z ∷ []) → ⊥
none_from net [] z f = f.0
none_from net (x ∷ v) z f = f.0

pub at_place : (net : Net) (k : ℕ) (u : List ℕ) → IsLaneWalk net k u → IsFrom net (net.offers k) u
at_place net k [] w = tt
at_place net k (x ∷ u) w = w

module _ (net : Net) where
  -- a way within a lane is one through the line
  pub lane_in_line : (k : ℕ) (v : List ℕ) → IsLaneWalk net k v → IsLaneWalk (line net) k v
  lane_in_line k [] w = tt
  lane_in_line k (x ∷ v) w = (some_offered (net.offers k) (offered_after net (net.lane k)) x w.0, lane_in_line x v w.1)

  from_in_line : (ps u : List ℕ) → IsFrom net ps u → IsFrom (line net) ps u
  from_in_line ps [] f = tt
  from_in_line ps (x ∷ u) f = (f.0, lane_in_line x u f.1)

  -- what the line offers at the start of a lane, and behind it
  enter_here : (l : ℕ) (ls : List ℕ) (x : ℕ) → IsIn x (net.begins l) → IsIn x (offered_from net (l ∷ ls))
  enter_here l ls x i = go (is_last net l)
    where
      go : (b : Bool) → IsIn x (if b then union (net.begins l) (offered_from net ls) else or_else (net.begins l) (offered_from net ls))
      go true = union_left x (net.begins l) (offered_from net ls) i
      go false = some_offered (net.begins l) (offered_from net ls) x i

  enter_next : (l : ℕ) (ls : List ℕ) (x : ℕ) → (net.begins l ≡ []) ⊎ (is_last net l ≡ true) → IsIn x (offered_from net ls) → IsIn x (offered_from net (l ∷ ls))
  enter_next l ls x (inl e) i = go (is_last net l)
    where
      go : (b : Bool) → IsIn x (if b then union (net.begins l) (offered_from net ls) else or_else (net.begins l) (offered_from net ls))
      go true = union_right x (net.begins l) (offered_from net ls) i
      go false = subst (λ ps. IsIn x (or_else ps (offered_from net ls))) (sym e) i
  enter_next l ls x (inr t) i = subst (λ b. IsIn x (if b then union (net.begins l) (offered_from net ls) else or_else (net.begins l) (offered_from net ls))) (sym t) (union_right x (net.begins l) (offered_from net ls) i)

  pub after_end : (k l d : ℕ) → net.offers k ≡ [] → net.lane k ≡ l → is_last net l ≡ false → l + d ≡ net.lane net.count → (line net).offers k ≡ offered_from net (range_with_len (l + 1) d)
  after_end k l d e f last g =
      ap (λ ps. or_else ps (offered_after net (net.lane k))) e
      ∙ ap (offered_after net) f
      ∙ ap (λ b. if b then [] else offered_from net (lanes_after net l)) last
      ∙ ap (λ m. offered_from net (range_with_len (l + 1) m)) (omega (arith, g))

  -- a way through the line goes on at the end of a lane
  pub end_on : (k l d : ℕ) (t : List ℕ) → net.offers k ≡ [] → net.lane k ≡ l → is_last net l ≡ false → l + d ≡ net.lane net.count → IsFrom (line net) (offered_from net (range_with_len (l + 1) d)) t → IsLaneWalk (line net) k t
  end_on k l d [] e f last g r = tt
  end_on k l d (y ∷ t) e f last g r = (subst (IsIn y) (sym (after_end k l d e f last g)) r.0, r.1)

  -- how far a way through the line stays within a lane, from what is offered there
  pub data Stays (l z : ℕ) (ps v : List ℕ) : Type 0 where
    within : IsFrom net ps (v ++ z ∷ []) → Stays l z ps v
    leaves : (a c : List ℕ) → a ++ c ≡ v → IsFrom net ps a → left_from net ps a ≡ [] → is_last net l ≡ false → IsFrom (line net) (offered_from net (lanes_after net l)) (c ++ z ∷ []) → Stays l z ps v

module _ (net : Net) (roles : ℕ) (proper : IsProper net roles) where
  pub last_lane : (k : ℕ) (u : List ℕ) → IsLaneWalk net k u → net.lane (last_of k u) ≡ net.lane k
  last_lane k [] w = refl
  last_lane k (x ∷ u) w = last_lane x u w.1 ∙ proper.lanes.kept k x w.0

  -- a lane that is ended, or one that begins with nothing, and then the line
  joins : (l d : ℕ) (u t : List ℕ) → is_last net l ≡ false → l + d ≡ net.lane net.count → IsFrom net (net.begins l) u → left_from net (net.begins l) u ≡ [] → IsFrom (line net) (offered_from net (range_with_len (l + 1) d)) t → IsFrom (line net) (offered_from net (range_with_len l (suc d))) (u ++ t)
  joins l d [] t last g f e r = from_more (line net) (offered_from net (range_with_len (l + 1) d)) (offered_from net (range_with_len l (suc d))) t (λ x i. enter_next net l (range_with_len (l + 1) d) x (inl e) i) r
  joins l d (x ∷ u) t last g f e r = (enter_here net l (range_with_len (l + 1) d) x f.0, lane_join (line net) x u t (lane_in_line net x u f.1) (end_on net (last_of x u) l d t e (last_lane x u f.1 ∙ proper.lanes.begun l x f.0) last g r))

  module _ (rises : LanesRise net) (n z : ℕ) (at_z : InText net z) where
    -- the line's part of a passage, as a way through the line
    pub on_line : (d : ℕ) {l : ℕ} {w v : List ℕ} → Passage net n z l w v → l + d ≡ net.lane net.count + 1 → IsFrom (line net) (offered_from net (range_with_len l d)) (v ++ z ∷ [])
    on_line zero p g = let le = passage_low net n z p in let r = rises z net.count at_z.0 at_z.1 (omega arith) in absurd (omega (arith, le, r, g))
    on_line (suc d) (arrives {l = l} {u = u} e f) g = from_more (line net) (net.begins l) (offered_from net (range_with_len l (suc d))) (u ++ z ∷ []) (λ x i. enter_here net l (range_with_len (l + 1) d) x i) (from_in_line net (net.begins l) (u ++ z ∷ []) f)
    on_line (suc d) (skips {l = l} {v = v} c p) g = from_more (line net) (offered_from net (range_with_len (l + 1) d)) (offered_from net (range_with_len l (suc d))) (v ++ z ∷ []) (λ x i. enter_next net l (range_with_len (l + 1) d) x c i) (on_line d p (omega (arith, g)))
    on_line (suc d) (through {l = l} {v = v} u a b last f e p) g = subst (IsFrom (line net) (offered_from net (range_with_len l (suc d)))) (sym (append_assoc u v (z ∷ []))) (joins l d u (v ++ z ∷ []) last (omega (arith, g)) f e (on_line d p (omega (arith, g))))
    on_line (suc d) (aside {l = l} {v = v} u a last f e p) g = subst (IsFrom (line net) (offered_from net (range_with_len l (suc d)))) (sym (append_assoc u v (z ∷ []))) (joins l d u (v ++ z ∷ []) last (omega (arith, g)) f e (on_line d p (omega (arith, g))))

  -- a way through the line stays within its lane up to the lane's end
  stays_more : (ps : List ℕ) (l z x : ℕ) (v : List ℕ) → IsIn x ps → net.lane x ≡ l → Stays net (net.lane x) z (net.offers x) v → Stays net l z ps (x ∷ v)
  stays_more ps l z x v i same (within f) = within (i, from_place net x (v ++ z ∷ []) f)
  stays_more ps l z x v i same (leaves a c e f g last r) = leaves
      (x ∷ a)
      c
      (ap (λ l. x ∷ l) e)
      (i, from_place net x a f)
      (sym (left_place net x a) ∙ g)
      (subst (λ l. is_last net l ≡ false) same last)
      (subst (λ l. IsFrom (line net) (offered_from net (lanes_after net l)) (c ++ z ∷ [])) same r)

  ended_here : (k z : ℕ) (v : List ℕ) → net.offers k ≡ [] → IsFrom (line net) ((line net).offers k) (v ++ z ∷ []) → Stays net (net.lane k) z (net.offers k) v
  ended_here k z v e f = go (is_last net (net.lane k)) refl
    where
      behind : IsFrom (line net) (offered_after net (net.lane k)) (v ++ z ∷ [])
      behind = subst (λ ps. IsFrom (line net) (or_else ps (offered_after net (net.lane k))) (v ++ z ∷ [])) e f

      go : (b : Bool) → is_last net (net.lane k) ≡ b → Stays net (net.lane k) z (net.offers k) v
      go true t = absurd (none_from (line net) v z (subst (λ b. IsFrom (line net) (if b then [] else offered_from net (lanes_after net (net.lane k))) (v ++ z ∷ [])) t behind))
      go false t = leaves [] v refl tt e t (subst (λ b. IsFrom (line net) (if b then [] else offered_from net (lanes_after net (net.lane k))) (v ++ z ∷ [])) t behind)

  -- what the line offers at a place that isn't its lane's end is what the lane offers
  in_lane : (k p : ℕ) (ps : List ℕ) (x : ℕ) → net.offers k ≡ p ∷ ps → IsIn x ((line net).offers k) → IsIn x (net.offers k)
  in_lane k p ps x e i = subst (IsIn x) (sym e) (subst (λ qs. IsIn x (or_else qs (offered_after net (net.lane k)))) e i)

  pub stays_at : (k z : ℕ) (v : List ℕ) → IsFrom (line net) ((line net).offers k) (v ++ z ∷ []) → Stays net (net.lane k) z (net.offers k) v
  stays_at k z [] f = go (net.offers k) refl
    where
      go : (ps : List ℕ) → net.offers k ≡ ps → Stays net (net.lane k) z (net.offers k) []
      go [] e = ended_here k z [] e f
      go (p ∷ ps) e = within (in_lane k p ps z e f.0, tt)
  stays_at k z (x ∷ v) f = go (net.offers k) refl (stays_at x z v (at_place (line net) x (v ++ z ∷ []) f.1))
    where
      go : (ps : List ℕ) → net.offers k ≡ ps → Stays net (net.lane x) z (net.offers x) v → Stays net (net.lane k) z (net.offers k) (x ∷ v)
      go [] e ih = ended_here k z (x ∷ v) e f
      go (p ∷ ps) e ih = let i = in_lane k p ps x e f.0 in stays_more (net.offers k) (net.lane k) z x v i (proper.lanes.kept k x i) ih

  stays_begun : (l z : ℕ) (v : List ℕ) → IsFrom (line net) (net.begins l) (v ++ z ∷ []) → Stays net l z (net.begins l) v
  stays_begun l z [] f = within (f.0, tt)
  stays_begun l z (x ∷ v) f = stays_more (net.begins l) l z x v f.0 (proper.lanes.begun l x f.0) (stays_at x z v (at_place (line net) x (v ++ z ∷ []) f.1))

  module _ (rises : LanesRise net) (n z : ℕ) (at_n : InText net n) (at_z : InText net z) where
    arrives_here : (l : ℕ) (v : List ℕ) → IsFrom net (net.begins l) (v ++ z ∷ []) → Passage net n z l v v
    arrives_here l v f = arrives (sym (from_points net roles proper (net.begins l) l (v ++ z ∷ []) (begun_points net roles proper l) f z (in_right z v (z ∷ []) (inl refl))).1) f

    -- a lane that the line goes through to its end, and a passage behind it
    leaves_lane : (l y : ℕ) (a c : List ℕ) → net.lane n < l → IsIn y (net.begins l) → is_last net l ≡ false → IsFrom net (net.begins l) a → left_from net (net.begins l) a ≡ [] → (w : List ℕ) × Passage net n z (l + 1) w c → (w : List ℕ) × Passage net n z l w (a ++ c)
    leaves_lane l y a c above i last f e p = go (cases_eq (net.stage l) (net.stage (net.lane n))) (cases_lt (net.stage l) (net.stage (net.lane z)))
      where
        t : InText net y × (net.lane y ≡ l)
        t = begun_points net roles proper l y i

        low : net.stage (net.lane n) ≤ net.stage l
        low = subst (λ k. net.stage (net.lane n) ≤ net.stage k) t.1 (stages_rise net roles proper rises n y at_n t.0 (subst (λ k. net.lane n < k) (sym t.1) above))

        below : l < net.lane z
        below = let g = passage_low net n z p.1 in omega (arith, g)

        high : net.stage l ≤ net.stage (net.lane z)
        high = subst (λ k. net.stage k ≤ net.stage (net.lane z)) t.1 (stages_rise net roles proper rises y z t.0 at_z (subst (λ k. k < net.lane z) (sym t.1) below))

        go : (net.stage l ≡ net.stage (net.lane n)) ⊎ (net.stage l ≡ net.stage (net.lane n) → ⊥) → (net.stage l < net.stage (net.lane z)) ⊎ (net.stage (net.lane z) ≤ net.stage l) → (w : List ℕ) × Passage net n z l w (a ++ c)
        go (inl s) d = (p.0, aside a (inl s) last f e p.1)
        go (inr m) (inl lt) = (a ++ p.0, through a (omega (arith, low, m)) lt last f e p.1)
        go (inr m) (inr le) = (p.0, aside a (inr (omega (arith, low, m), λ g. omega (arith, g, below), omega (arith, le, high))) last f e p.1)

    -- so each way through the line to z is the line's part of a passage
    pub off_line : (l d : ℕ) (v : List ℕ) → net.lane n < l → l + d ≡ net.lane net.count + 1 → IsFrom (line net) (offered_from net (range_with_len l d)) (v ++ z ∷ []) → (w : List ℕ) × Passage net n z l w v
    off_line l zero v above g f = absurd (none_from (line net) v z f)
    off_line l (suc d) v above g f = by_last (is_last net l) refl (λ c r. off_line (l + 1) d c (omega (arith, above)) (omega (arith, g)) r)
      where
        skipped : (net.begins l ≡ []) ⊎ (is_last net l ≡ true) → (w : List ℕ) × Passage net n z (l + 1) w v → (w : List ℕ) × Passage net n z l w v
        skipped c p = (p.0, skips c p.1)

        in_last : is_last net l ≡ true → Stays net l z (net.begins l) v → (w : List ℕ) × Passage net n z l w v
        in_last t (within h) = (v, arrives_here l v h)
        in_last t (leaves a c e h k last r) = absurd (let x : true ≡ false = sym t ∙ last in cc)

        in_other : (y : ℕ) → IsIn y (net.begins l) → ((c : List ℕ) → IsFrom (line net) (offered_from net (range_with_len (l + 1) d)) (c ++ z ∷ []) → (w : List ℕ) × Passage net n z (l + 1) w c) → Stays net l z (net.begins l) v → (w : List ℕ) × Passage net n z l w v
        in_other y i ih (within h) = (v, arrives_here l v h)
        in_other y i ih (leaves a c e h k last r) = subst (λ b. (w : List ℕ) × Passage net n z l w b) e (leaves_lane l y a c above i last h k (ih c (subst (λ m. IsFrom (line net) (offered_from net (range_with_len (l + 1) m)) (c ++ z ∷ [])) (omega (arith, g)) r)))

        begins : (ps : List ℕ) → net.begins l ≡ ps → is_last net l ≡ false → ((c : List ℕ) → IsFrom (line net) (offered_from net (range_with_len (l + 1) d)) (c ++ z ∷ []) → (w : List ℕ) × Passage net n z (l + 1) w c) → IsFrom (line net) (or_else (net.begins l) (offered_from net (range_with_len (l + 1) d))) (v ++ z ∷ []) → (w : List ℕ) × Passage net n z l w v
        begins [] e t ih h = skipped (inl e) (ih v (subst (λ ps. IsFrom (line net) (or_else ps (offered_from net (range_with_len (l + 1) d))) (v ++ z ∷ [])) e h))
        begins (y ∷ ps) e t ih h = in_other y (subst (IsIn y) (sym e) (inl refl)) ih (stays_begun l z v (subst (λ qs. IsFrom (line net) qs (v ++ z ∷ [])) (sym e) (subst (λ qs. IsFrom (line net) (or_else qs (offered_from net (range_with_len (l + 1) d))) (v ++ z ∷ [])) e h)))

        by_last : (b : Bool) → is_last net l ≡ b → ((c : List ℕ) → IsFrom (line net) (offered_from net (range_with_len (l + 1) d)) (c ++ z ∷ []) → (w : List ℕ) × Passage net n z (l + 1) w c) → (w : List ℕ) × Passage net n z l w v
        by_last true t ih = ⊎_elim
            (λ h. in_last t (stays_begun l z v h))
            (λ h. skipped (inr t) (ih v h))
            (from_either (line net) (net.begins l) (offered_from net (range_with_len (l + 1) d)) (v ++ z ∷ []) (subst (λ b. IsFrom (line net) (if b then union (net.begins l) (offered_from net (range_with_len (l + 1) d)) else or_else (net.begins l) (offered_from net (range_with_len (l + 1) d))) (v ++ z ∷ [])) t f))
        by_last false t ih = begins (net.begins l) refl t ih (subst (λ b. IsFrom (line net) (if b then union (net.begins l) (offered_from net (range_with_len (l + 1) d)) else or_else (net.begins l) (offered_from net (range_with_len (l + 1) d))) (v ++ z ∷ [])) t f)
