-- Where a role is first marked on a walk that goes through a start: the start itself, or what lies ahead of it.
use Rattle.std.proofs.Common.{◌≡◌, ℕ, ◌-◌, ◌<◌, ◌≤◌, Bool, true, false, ◌||◌, List, [], ◌∷◌, ◌++◌, get_or, refl, sym, ◌∙◌, ap, subst, ◌⊎◌, inl, inr, ⊎_elim, arith, append_assoc}
use Rattle.std.specs.Prelude.{◌==◌, ◌↔◌}
use Rattle.std.specs.declared.alloc.Global.{Global}
use Rattle.std.specs.declared.vec.Vec.{Vec}
use Rattle.std.proofs.lemmas.Bool.{cases_eq}
use Rattle.std.proofs.lemmas.Bool.Decides.{nat_tests}
use Rattle.rcv_tree.specs.Bits.{has_bit, has_point, IsPoint}
use Rattle.rcv_tree.specs.declared.point.PointSet.{PointSet}
use Rattle.rcv_model.specs.Net.{Net, IsIn, IsLaneWalk}
use Rattle.rcv_model.specs.Next.{IsOf, IsProper}
use Rattle.rcv_model.specs.Table.{mark, marks, IsMarkedAt}
use Rattle.rcv_model.proofs.Marks.{mark_here, mark_cases, mark_keeps}
use Rattle.rcv_model.proofs.Walks.{lane_front}
use Rattle.rcv_accept.proofs.Rows.{read_at}
use Rattle.rcv_tables.specs.Line.{HasLine, line, IsLaneMarkedAt}
use Rattle.rcv_tables.specs.Ahead.{IsAhead, offered_here, behind_one, HoldsRoles, IsEnd, AreEnds}
use Rattle.rcv_tables.specs.Wanted.{IsWanted, HasSender}
use Rattle.rcv_tables.specs.Sets.{has_at, IsExact, AreAll}
use Rattle.rcv_tables.specs.Starts.{AreFirstMarks, IsOwnPoint}
use Rattle.rcv_tables.proofs.MarksInLine.{marks_in_line}

-- a role that is first marked behind a walk within a lane, and what lies ahead
module _ (net : Net) where
  pub ahead_of_walk : (q z : ℕ) (b : List ℕ) (m : List ℕ) (k : ℕ) → IsLaneWalk net k (b ++ z ∷ []) → (IsIn q (marks net m b) → ⊥) → IsIn q (marks net m (b ++ z ∷ [])) → IsAhead net m k z × (q ≡ net.receiver z)
  ahead_of_walk q z [] m k walk not_yet now = go (mark_cases net m z q now)
    where
      go : IsIn q m ⊎ ((q ≡ net.receiver z) × IsIn (net.sender z) m) → IsAhead net m k z × (q ≡ net.receiver z)
      go (inl i) = absurd (not_yet i)
      go (inr a) = (offered_here walk.0 (a.1, λ i. not_yet (subst (λ r. IsIn r m) (sym a.0) i)), a.0)
  ahead_of_walk q z (y ∷ b) m k walk not_yet now =
      let a = ahead_of_walk q z b (mark net m y) y walk.1 not_yet now in
      (behind_one walk.0 a.0, a.1)

  pub walk_of_ahead : {m : List ℕ} {k z : ℕ} → IsAhead net m k z → (b : List ℕ) × IsLaneWalk net k (b ++ z ∷ []) × (IsIn (net.receiver z) (marks net m b) → ⊥) × IsIn (net.receiver z) (marks net m (b ++ z ∷ []))
  walk_of_ahead (offered_here {marked = m} {k = k} {z = z} i g) = ([], (i, tt), g.1, mark_here net m z g.0)
  walk_of_ahead (behind_one {marked = m} {k = k} {y = y} {z = z} i a) =
      let r = walk_of_ahead a in
      (y ∷ r.0, (i, r.1), r.2, r.3)

  -- so for a start
  of_lane_marked : (p n q z : ℕ) → (q ≡ p → ⊥) → IsLaneMarkedAt net p n q z → (q ≡ net.receiver z) × (((z ≡ n) × (net.sender n ≡ p)) ⊎ IsAhead net (mark net (p ∷ []) n) n z)
  of_lane_marked p n q z apart at' = go at'.before at'.walk.2 at'.not_yet at'.now
    where
      w : List ℕ
      w = at'.walk.0

      go : (before : List ℕ) → before ++ z ∷ at'.after ≡ n ∷ at'.walk.0 → (IsIn q (marks net (p ∷ []) before) → ⊥) → IsIn q (marks net (p ∷ []) (before ++ z ∷ [])) → (q ≡ net.receiver z) × (((z ≡ n) × (net.sender n ≡ p)) ⊎ IsAhead net (mark net (p ∷ []) n) n z)
      go [] e not_yet now =
          let f : z ≡ n = cc in
          first (mark_cases net (p ∷ []) z q now) f
        where
          first : IsIn q (p ∷ []) ⊎ ((q ≡ net.receiver z) × IsIn (net.sender z) (p ∷ [])) → z ≡ n → (q ≡ net.receiver z) × (((z ≡ n) × (net.sender n ≡ p)) ⊎ IsAhead net (mark net (p ∷ []) n) n z)
          first (inl i) f = absurd (not_yet i)
          first (inr a) f = (a.0, inl (f, ⊎_elim (λ s. ap net.sender (sym f) ∙ s) (λ none. absurd none) a.1))
      go (y ∷ b) e not_yet now =
          let f : y ≡ n = cc in
          let g : b ++ z ∷ at'.after ≡ at'.walk.0 = cc in
          let walk : IsLaneWalk net n (b ++ z ∷ []) = lane_front net n (b ++ z ∷ []) at'.after (subst (IsLaneWalk net n) (sym g ∙ sym (append_assoc b (z ∷ []) at'.after)) at'.walk.1) in
          let r = ahead_of_walk q z b (mark net (p ∷ []) n) n walk (subst (λ x. IsIn q (marks net (mark net (p ∷ []) x) b) → ⊥) f not_yet) (subst (λ x. IsIn q (marks net (mark net (p ∷ []) x) (b ++ z ∷ []))) f now) in
          (r.1, inr r.0)

  to_lane_marked : (p n z : ℕ) → (net.receiver z ≡ p → ⊥) → ((z ≡ n) × (net.sender n ≡ p)) ⊎ IsAhead net (mark net (p ∷ []) n) n z → IsLaneMarkedAt net p n (net.receiver z) z
  to_lane_marked p n z apart (inl a) = record {
    before = [];
    after = [];
    walk = ([], tt, ap (λ x. x ∷ []) a.0);
    not_yet = λ i. ⊎_elim (λ e. apart e) (λ none. none) i;
    now = mark_here net (p ∷ []) z (inl (ap net.sender a.0 ∙ a.1));
  }
  to_lane_marked p n z apart (inr a) =
      let r = walk_of_ahead a in
      record {
        before = n ∷ r.0;
        after = [];
        walk = (r.0 ++ z ∷ [], r.1, refl);
        not_yet = r.2;
        now = r.3;
      }

-- on walks with lanes: what lies ahead in the line
module _ (net : Net) (proper : IsProper net 8) (has : HasLine net) (p n : ℕ) (start : IsOwnPoint net p n) where
  pub of_marked : (q z : ℕ) → (q ≡ p → ⊥) → IsMarkedAt net p n q z → (q ≡ net.receiver z) × (((z ≡ n) × (net.sender n ≡ p)) ⊎ IsAhead (line net) (mark net (p ∷ []) n) n z)
  of_marked q z apart m = of_lane_marked (line net) p n q z apart ((marks_in_line net 8 p n q z proper has start.0 start.1 start.2 apart).0 m)

  pub to_marked : (z : ℕ) → (net.receiver z ≡ p → ⊥) → ((z ≡ n) × (net.sender n ≡ p)) ⊎ IsAhead (line net) (mark net (p ∷ []) n) n z → IsMarkedAt net p n (net.receiver z) z
  to_marked z apart a = (marks_in_line net 8 p n (net.receiver z) z proper has start.0 start.1 start.2 apart).1 (to_lane_marked (line net) p n z apart a)

-- the row of a set of roles
pub all_at : (net : Net) (rows : List (Vec PointSet Global)) (bits : ℕ) (row : Vec PointSet Global) → AreAll net rows → bits ≤ 255 → IsWanted net bits → row ≡ get_or rows (255 - bits) row → IsExact net bits row.items
all_at net rows bits row all le wanted is =
    let long = all.all in
    let back : 255 - (255 - bits) ≡ bits = omega arith in
    subst (λ b. IsExact net b row.items) back (all.each (255 - bits) row (read_at rows (255 - bits) row (omega (arith, long)) is) (subst (IsWanted net) (sym back) wanted))

-- the roles that are marked behind a start have points
ends_behind : (net : Net) (bits p n : ℕ) → 1 ≤ n → n ≤ net.count → IsOf net p n → HoldsRoles bits (mark net (p ∷ []) n) → AreEnds net bits
ends_behind net bits p n first last own holds r low t = go (mark_cases net (p ∷ []) n r ((holds r low).0 t))
  where
    go : IsIn r (p ∷ []) ⊎ ((r ≡ net.receiver n) × IsIn (net.sender n) (p ∷ [])) → IsEnd net net.count r
    go (inl i) = ⊎_elim (λ e. (n, first, last, subst (λ q. IsOf net q n) (sym e) own)) (λ none. absurd none) i
    go (inr a) = (n, first, last, inr (sym a.0))

-- and a start leads to their set
pub wanted_behind : (net : Net) (bits p n : ℕ) → p < 8 → 1 ≤ n → n ≤ net.count → IsOf net p n → HoldsRoles bits (mark net (p ∷ []) n) → IsWanted net bits
wanted_behind net bits p n role first last own holds = record {
  ends = ends_behind net bits p n first last own holds;
  first = p;
  low = role;
  others = λ r low t. go r (mark_cases net (p ∷ []) n r ((holds r low).0 t));
}
  where
    here : has_bit bits p ≡ true
    here = (holds p role).1 (mark_keeps net (p ∷ []) n p (inl refl))

    go : (r : ℕ) → IsIn r (p ∷ []) ⊎ ((r ≡ net.receiver n) × IsIn (net.sender n) (p ∷ [])) → (r ≡ p) ⊎ HasSender net bits r
    go r (inl i) = ⊎_elim (λ e. inl e) (λ none. absurd none) i
    go r (inr a) = ⊎_elim (λ e. inr (p, role, here, (n, first, last, e, sym a.0))) (λ none. absurd none) a.1

-- what is first marked behind a point that the role sends, or receives
module _ (net : Net) (bits p n : ℕ) (row : List PointSet) (old : List ℕ) (exact : IsExact net bits row) (holds : HoldsRoles bits (mark net (p ∷ []) n)) (low : n ≤ net.count) (read : (z : ℕ) → has_point old z ≡ has_at row n z) where
  pub marks_got : (net.sender n ≡ p → ⊥) → AreFirstMarks net p n old
  marks_got other z point = (
    λ t. inr ((exact.each (mark net (p ∷ []) n) holds n z low point).0 (sym (read z) ∙ t)),
    λ a. read z ∙ (exact.each (mark net (p ∷ []) n) holds n z low point).1 (⊎_elim (λ b. absurd (other b.1)) (λ b. b) a),
  )

  pub marks_sent : (new : List ℕ) → net.sender n ≡ p → ((z : ℕ) → IsPoint z → has_point new z ≡ (has_point old z || n == z)) → AreFirstMarks net p n new
  marks_sent new sent put z point = (λ t. of_new (cases_eq z n) (sym (put z point) ∙ t), λ a. put z point ∙ to_new a)
    where
      each : (has_at row n z ≡ true) ↔ IsAhead net (mark net (p ∷ []) n) n z
      each = exact.each (mark net (p ∷ []) n) holds n z low point

      of_new : (z ≡ n) ⊎ (z ≡ n → ⊥) → (has_point old z || n == z) ≡ true → ((z ≡ n) × (net.sender n ≡ p)) ⊎ IsAhead net (mark net (p ∷ []) n) n z
      of_new (inl e) t = inl (e, sent)
      of_new (inr m) t = inr (each.0 (sym (read z) ∙ (grind (arith, nat_tests))))

      to_new : ((z ≡ n) × (net.sender n ≡ p)) ⊎ IsAhead net (mark net (p ∷ []) n) n z → (has_point old z || n == z) ≡ true
      to_new (inl a) = go (has_point old z) (let e = a.0 in let f : (n == z) ≡ true = grind (arith, nat_tests) in f)
        where
          go : (b : Bool) → (n == z) ≡ true → (b || n == z) ≡ true
          go true f = refl
          go false f = f
      to_new (inr a) = ap (λ b. b || n == z) (read z ∙ each.1 a)
