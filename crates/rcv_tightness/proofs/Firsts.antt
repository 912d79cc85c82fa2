-- The first undone event of a role is the first one after those that a recovery keeps.
use Rattle.std.proofs.Common.{◌≡◌, ℕ, ◌<◌, true, cond, Some, None, List, [], ◌∷◌, ◌++◌, length, refl, sym, ◌∙◌, ap, subst, ◌⊎◌, inl, inr, ⊎_elim, append_assoc, arith, eq-eqb}
use Rattle.std.specs.Prelude.{◌↔◌, slice_get}
use Rattle.rcv_tree.specs.declared.event.Event.{Event}
use Rattle.rcv_model.specs.Net.{Net, IsIn}
use Rattle.rcv_model.specs.Run.{Act, act_of, acts, IsQueued}
use Rattle.rcv_model.specs.Undo.{IsUndone, SameRole, is_blocked, keep_within, scanned}
use Rattle.rcv_model.proofs.Keeping.{by_role, scan_of}
use Rattle.rcv_model.proofs.Lists.{some_same}
use Rattle.rcv_model.proofs.Located.{get_below}
use Rattle.rcv_model.proofs.Losses.{FirstLost, first_lost}
use Rattle.rcv_model.proofs.Queues.{Around, around, at_number, get_here}
use Rattle.rcv_model.proofs.Scanning.{acts_same}
use Rattle.rcv_model.proofs.Undoing.{Stop, stop_of, unstopped, blocked_stops, blocked_keeps, blocked_iff_undone}
use Rattle.rcv_tightness.specs.Met.{IsFirstUndone}
use Rattle.rcv_tightness.specs.Laws.{IsNextAfterKept}

-- an earlier cut of a list lies within the beginning of a later one
cut_inside : {A : Type 0} (f g front back : List A) (x e : A) → f ++ x ∷ g ≡ front ++ e ∷ back → length f < length front
    → (mid : List A) × (f ++ x ∷ mid ≡ front)
cut_inside f g [] back x e eq lt = absurd (omega arith)
cut_inside [] g (y ∷ front) back x e eq lt = (front, let h : x ≡ y = cc in ap (λ z. z ∷ front) h)
cut_inside (z ∷ f) g (y ∷ front) back x e eq lt =
    let h : z ≡ y = cc in
    let k : f ++ x ∷ g ≡ front ++ e ∷ back = cc in
    let r = cut_inside f g front back x e k (omega arith) in
    (r.0, ap (λ l. z ∷ l) r.1 ∙ ap (λ v. v ∷ front) h)

abbrev act_with : Event → Act
act_with e = record { dir = e.dir; point = e.point }

module _ (net : Net) (bound : ℕ → ℕ) (h : List Event) (queued : IsQueued net h) where
  -- an event that is lost, of a role that has lost none before it
  module _ (front back : List Event) (e : Event) (whole : front ++ e ∷ back ≡ h) (free : IsIn e.role (scanned net bound front).stopped → ⊥)
      (lost : is_blocked net bound (scanned net bound front) e ≡ true) where
    stands : slice_get h (length front) ≡ Some e
    stands = subst (λ l. slice_get l (length front) ≡ Some e) whole (get_here front back e)

    none_before : (i : ℕ) → i < length front → SameRole h i (length front) → IsUndone net h bound i → ⊥
    none_before i lt same undone =
        free (subst (λ r. IsIn r (scanned net bound front).stopped) role
        (subst (λ l. IsIn same.first.role (scanned net bound l).stopped) inside.1
        (blocked_stops net bound h queued y.front same.first inside.0 blocked)))
      where
        y : Around h i same.first
        y = around h i same.first same.at_i

        blocked : is_blocked net bound (scanned net bound y.front) same.first ≡ true
        blocked = (blocked_iff_undone net bound h queued y.front y.back same.first y.whole).1 (subst (IsUndone net h bound) (sym y.length_is) undone)

        inside : (mid : List Event) × (y.front ++ same.first ∷ mid ≡ front)
        inside = let n = y.length_is in cut_inside y.front y.back front back same.first e (y.whole ∙ sym whole) (omega (arith, n, lt))

        role : same.first.role ≡ e.role
        role = same.same ∙ ap (λ (z : Event). z.role) (some_same (sym same.at_j ∙ stands))

    pub first_at : IsFirstUndone net h bound e.role e.point
    first_at = record {
      position = length front;
      event = e;
      stands = stands;
      role = refl;
      point = refl;
      undone = (blocked_iff_undone net bound h queued front back e whole).0 lost;
      first = none_before;
    }

    -- so many the role keeps
    kept_before : length (acts e.role (keep_within net bound h)) ≡ length (acts e.role front)
    kept_before =
        ap length
        (acts_same e.role (keep_within net bound h) front
        (subst (λ l. by_role e.role (scanned net bound l).events ≡ by_role e.role (scanned net bound front).events) whole
        (blocked_keeps net bound h queued front e back lost) ∙ unstopped net bound h queued front (e ∷ back) e.role whole free))

    next_act : slice_get (acts e.role h) (length (acts e.role (keep_within net bound h))) ≡ Some (act_with e)
    next_act =
        let own : act_of e.role e ≡ Some (act_with e) = ap (λ b. cond b (Some (act_with e)) None) (eq-eqb e.role e.role refl) in
        ap (slice_get (acts e.role h)) kept_before
        ∙ subst (λ l. slice_get (acts e.role l) (length (acts e.role front)) ≡ Some (act_with e)) whole
        (at_number (act_of e.role) front back e (act_with e) own)

    pub next_at : IsNextAfterKept net h bound e.role e.point
    next_at = (act_with e, next_act, refl)

  to_next : (q z : ℕ) → IsFirstUndone net h bound q z → IsNextAfterKept net h bound q z
  to_next q z f =
      subst (λ r. IsNextAfterKept net h bound r z) f.role
      (subst (IsNextAfterKept net h bound f.event.role) f.point (next_at y.front y.back f.event y.whole free blocked))
    where
      y : Around h f.position f.event
      y = around h f.position f.event f.stands

      blocked : is_blocked net bound (scanned net bound y.front) f.event ≡ true
      blocked = (blocked_iff_undone net bound h queued y.front y.back f.event y.whole).1 (subst (IsUndone net h bound) (sym y.length_is) f.undone)

      free : IsIn f.event.role (scanned net bound y.front).stopped → ⊥
      free i = ⊎_elim
          (λ n. n)
          (λ (s : Stop net bound f.event.role (record { events = []; stopped = [] }) y.front).
          let eq : s.front ++ s.event ∷ (s.back ++ f.event ∷ y.back) ≡ h = sym (append_assoc s.front (s.event ∷ s.back) (f.event ∷ y.back))
          ∙ ap (λ l. l ++ f.event ∷ y.back) s.whole ∙ y.whole in
          let here : slice_get h (length s.front) ≡ Some s.event =
          subst (λ l. slice_get l (length s.front) ≡ Some s.event) eq (get_here s.front (s.back ++ f.event ∷ y.back) s.event) in
          let early =
          get_below y.front (length s.front) s.event
          (subst (λ l. slice_get l (length s.front) ≡ Some s.event) s.whole (get_here s.front s.back s.event)) in
          let n = y.length_is in
          f.first (length s.front) (omega (arith, early, n))
          (record { first = s.event; second = f.event; at_i = here; at_j = f.stands; same = s.role })
          ((blocked_iff_undone net bound h queued s.front (s.back ++ f.event ∷ y.back) s.event eq).0 s.blocked))
          (stop_of net bound f.event.role (record { events = []; stopped = [] }) y.front i)

  from_next : (q z : ℕ) → IsNextAfterKept net h bound q z → IsFirstUndone net h bound q z
  from_next q z n = go (first_lost net bound q (record { events = []; stopped = [] }) h (λ i. i))
    where
      go : (IsIn q (scanned net bound h).stopped → ⊥) ⊎ FirstLost net bound q (record { events = []; stopped = [] }) h → IsFirstUndone net h bound q z
      go (inl none') =
          let same : by_role q (keep_within net bound h) ≡ by_role q h =
          ⊎_elim (λ i. absurd (none' i)) (λ f. f) ((scan_of net bound h queued).same q) in
          absurd (let lt = get_below (acts q h) (length (acts q (keep_within net bound h))) n.0 n.1 in
          omega (arith, lt, ap length (acts_same q (keep_within net bound h) h same)))
      go (inr x) =
          subst (λ r. IsFirstUndone net h bound r z) x.role
          (subst (IsFirstUndone net h bound x.event.role) point (first_at x.front x.back x.event x.whole free x.blocked))
        where
          free : IsIn x.event.role (scanned net bound x.front).stopped → ⊥
          free i = x.free (subst (λ r. IsIn r (scanned net bound x.front).stopped) x.role i)

          point : x.event.point ≡ z
          point =
              let there =
              subst (λ r. slice_get (acts r h) (length (acts r (keep_within net bound h))) ≡ Some (act_with x.event)) x.role
              (next_act x.front x.back x.event x.whole free x.blocked) in
              ap (λ (a : Act). a.point) (some_same (sym there ∙ n.1)) ∙ n.2

pub first_undone_is_next : (net : Net) (h : List Event) (bound : ℕ → ℕ) (q z : ℕ) → IsQueued net h
    → IsFirstUndone net h bound q z ↔ IsNextAfterKept net h bound q z
first_undone_is_next net h bound q z queued = (to_next net bound h queued q z, from_next net bound h queued q z)
