-- Wires for the first messages of a journal, and for one message more.
use Rattle.std.proofs.Common.{◌≡◌, ℕ, ◌+◌, ◌≤◌, ◌<◌, ◌⊎◌, inl, inr, ⊎_elim, Bool, true, Some, List, [], ◌∷◌, ◌++◌, length, refl, sym, ◌∙◌, ap, subst, arith}
use Rattle.std.specs.Prelude.{◌↔◌, slice_get, slice_index_or}
use Rattle.std.specs.List.{All}
use Rattle.std.proofs.lemmas.Bool.{cases_lt}
use Rattle.std.proofs.lemmas.Option.{slice_get_within}
use Rattle.std.proofs.lemmas.List.Elements.{All-nil, All-cons, All-append}
use Rattle.rcv_tree.specs.declared.event.Event.{Event}
use Rattle.rcv_tree.specs.declared.entry.Entry.{Entry}
use Rattle.rcv_model.specs.Net.{Net}
use Rattle.rcv_picture.specs.declared.group.Says.{Says}
use Rattle.rcv_picture.specs.declared.group.Says.TheVariants as says
use Rattle.rcv_fates.specs.declared.arrow.Arrow.{Arrow}
use Rattle.rcv_fates.specs.Fates.{arrow, AreArrows, IsUndoneAt}
use Rattle.rcv_rows.specs.Told.{IsSaid, IsMarked, IsWireIn, IsDrawn, AreOnce, AreWires}
use Rattle.rcv_rows.specs.Adding.{IsWireOf}
use Rattle.rcv_rows.proofs.Saying.{said_left, said_right, said_either}

-- one wire more is drawn
drawn_left : (wires : List Says) (x : Says) (s t : ℕ) → IsDrawn wires s t → IsDrawn (wires ++ x ∷ []) s t
drawn_left wires x s t d = (d.0, said_left (says.Arrow s t d.0) wires (x ∷ []) d.1)

drawn_last : (wires : List Says) (s t : ℕ) (undone : Bool) → IsDrawn (wires ++ says.Arrow s t undone ∷ []) s t
drawn_last wires s t undone = (undone, said_right (says.Arrow s t undone) wires (says.Arrow s t undone ∷ []) (inl refl))

drawn_either : (wires : List Says) (s t : ℕ) (undone : Bool) (a b : ℕ) → IsDrawn (wires ++ says.Arrow s t undone ∷ []) a b → IsDrawn wires a b ⊎ ((a ≡ s) × (b ≡ t))
drawn_either wires s t undone a b d = ⊎_elim
    (λ (l : IsSaid (says.Arrow a b d.0) wires). inl (d.0, l))
    (λ (r : IsSaid (says.Arrow a b d.0) (says.Arrow s t undone ∷ [])). ⊎_elim (λ (e : says.Arrow a b d.0 ≡ says.Arrow s t undone). inr (cc, cc)) (λ (none : ⊥). absurd none) r)
    (said_either (says.Arrow a b d.0) wires (says.Arrow s t undone ∷ []) d.1)

once_more : (wires : List Says) (s t : ℕ) (undone : Bool) → AreOnce wires → (IsDrawn wires s t → ⊥) → AreOnce (wires ++ says.Arrow s t undone ∷ [])
once_more [] s t undone once new = ((λ d. absurd d.1), tt)
once_more (says.Arrow a b u ∷ wires) s t undone once new = (
  (λ d. ⊎_elim
      (λ (old : IsDrawn wires a b). once.0 old)
      (λ (same : (a ≡ s) × (b ≡ t)). new (u, inl (ap (λ n. says.Arrow n t u) (sym same.0) ∙ ap (λ n. says.Arrow a n u) (sym same.1))))
      (drawn_either wires s t undone a b d)),
  once_more wires s t undone once.1 (λ d. new (d.0, inr d.1)),
)
once_more (says.Entry place u ∷ wires) s t undone once new = absurd once
once_more (says.Fold first end counts ∷ wires) s t undone once new = absurd once
once_more (says.Nothing ∷ wires) s t undone once new = absurd once

-- The wires are those of the first so many arrows that have a marked end.
pub record IsWiring (net : Net) (kept : List Event) (entries : List Entry) (marks : List Bool) (arrows : List Arrow) (i : ℕ) (wires : List Says) : Type 0 where
  pub right : All (IsWireIn net kept entries (IsMarked marks)) wires
  pub all : (k : ℕ) (a : Arrow) → k < i → slice_get arrows k ≡ Some a → IsMarked marks a.send ⊎ IsMarked marks a.receive → IsDrawn wires a.send a.receive
  pub once : AreOnce wires
  pub early : (s t : ℕ) → IsDrawn wires s t → (k : ℕ) × (k < i) × (slice_get arrows k ≡ Some (arrow s t))

pub wiring_start : (net : Net) (kept : List Event) (entries : List Entry) (marks : List Bool) (arrows : List Arrow) → IsWiring net kept entries marks arrows 0 []
wiring_start net kept entries marks arrows = record {
  right = All-nil (IsWireIn net kept entries (IsMarked marks));
  all = λ k a lt. absurd (omega (arith, lt));
  once = tt;
  early = λ s t d. absurd d.1;
}

module _ (net : Net) (kept : List Event) (entries : List Entry) (marks : List Bool) (arrows : List Arrow) where
  same_arrow : (x y : Arrow) → Some x ≡ Some y → x ≡ y
  same_arrow x y e = cc

  -- an arrow without a marked end is passed
  pub wiring_on : (i : ℕ) (wires : List Says) (a : Arrow) → slice_get arrows i ≡ Some a → IsWiring net kept entries marks arrows i wires → (IsMarked marks a.send ⊎ IsMarked marks a.receive → ⊥) → IsWiring net kept entries marks arrows (i + 1) wires
  wiring_on i wires a at w unseen = record {
    right = w.right;
    all = λ k b lt there seen. ⊎_elim
        (λ (before : k < i). w.all k b before there seen)
        (λ (from : i ≤ k).
        let same : i ≡ k = omega (arith, from, lt) in
        let e : a ≡ b = same_arrow a b (sym at ∙ ap (slice_get arrows) same ∙ there) in
        absurd (unseen (subst (λ (x : Arrow). IsMarked marks x.send ⊎ IsMarked marks x.receive) (sym e) seen)))
        (cases_lt k i);
    once = w.once;
    early = λ s t d. let old = w.early s t d in (old.0, (let lt = old.1 in omega (arith, lt)), old.2);
  }

  add : (i : ℕ) (wires : List Says) (a : Arrow) (undone : Bool) → AreArrows net entries arrows → slice_get arrows i ≡ Some a → IsWiring net kept entries marks arrows i wires → IsMarked marks a.send ⊎ IsMarked marks a.receive → (undone ≡ true) ↔ IsUndoneAt kept entries a.receive → IsWiring net kept entries marks arrows (i + 1) (wires ++ says.Arrow a.send a.receive undone ∷ [])
  add i wires a undone are at w seen right = record {
    right = All-append (IsWireIn net kept entries (IsMarked marks)) wires (says.Arrow a.send a.receive undone ∷ []) w.right
        (All-cons (IsWireIn net kept entries (IsMarked marks)) (says.Arrow a.send a.receive undone) []
        (record { message = are.sound i a at; shown = seen; right = right })
        (All-nil (IsWireIn net kept entries (IsMarked marks))));
    all = λ k b lt there marked. ⊎_elim
        (λ (before : k < i). drawn_left wires (says.Arrow a.send a.receive undone) b.send b.receive (w.all k b before there marked))
        (λ (from : i ≤ k).
        let same : i ≡ k = omega (arith, from, lt) in
        let e : a ≡ b = same_arrow a b (sym at ∙ ap (slice_get arrows) same ∙ there) in
        subst (λ (x : Arrow). IsDrawn (wires ++ says.Arrow a.send a.receive undone ∷ []) x.send x.receive) e (drawn_last wires a.send a.receive undone))
        (cases_lt k i);
    once = once_more wires a.send a.receive undone w.once
        (λ d.
        let old = w.early a.send a.receive d in
        let lt = are.ascending old.0 i (arrow a.send a.receive) a old.1 old.2 at in
        omega (arith, lt));
    early = λ s t d. ⊎_elim
        (λ (l : IsDrawn wires s t). let old = w.early s t l in (old.0, (let lt = old.1 in omega (arith, lt)), old.2))
        (λ (same : (s ≡ a.send) × (t ≡ a.receive)). (i, omega arith, at ∙ ap (λ n. Some (arrow n a.receive)) (sym same.0) ∙ ap (λ n. Some (arrow s n)) (sym same.1)))
        (drawn_either wires a.send a.receive undone s t d);
  }

  pub wiring_next : (i : ℕ) (wires : List Says) (a : Arrow) (x : Says) → AreArrows net entries arrows → slice_get arrows i ≡ Some a → IsWiring net kept entries marks arrows i wires → IsMarked marks a.send ⊎ IsMarked marks a.receive → IsWireOf kept entries a.send a.receive x → IsWiring net kept entries marks arrows (i + 1) (wires ++ x ∷ [])
  wiring_next i wires a x are at w seen is = subst (λ y. IsWiring net kept entries marks arrows (i + 1) (wires ++ y ∷ [])) (sym is.is) (add i wires a is.undone are at w seen is.right)

  -- all arrows
  pub wired : (n : ℕ) (wires : List Says) → AreArrows net entries arrows → length arrows ≤ n → IsWiring net kept entries marks arrows n wires → AreWires net kept entries (IsMarked marks) wires
  wired n wires are size w = record {
    right = w.right;
    all = λ s t message seen.
        let at = are.complete s t message in
        let within = slice_get_within arrows at.0 (arrow s t) at.1 in
        w.all at.0 (arrow s t) (omega (arith, within, size)) at.1 seen;
    once = w.once;
  }

-- the wires of marked places are those of shown rows
pub by_marks : (net : Net) (kept : List Event) (entries : List Entry) (shows other : ℕ → Type 0) (wires : List Says) → ((k : ℕ) → other k ↔ shows k) → AreWires net kept entries shows wires → AreWires net kept entries other wires
by_marks net kept entries shows other wires same are = record {
  right = λ k d lt. by_one (slice_index_or wires k d) (are.right k d lt);
  all = λ s t message seen. are.all s t message (⊎_elim (λ x. inl ((same s).0 x)) (λ x. inr ((same t).0 x)) seen);
  once = are.once;
}
  where
    by_one : (x : Says) → IsWireIn net kept entries shows x → IsWireIn net kept entries other x
    by_one (says.Arrow s t undone) w = record { message = w.message; shown = ⊎_elim (λ x. inl ((same s).1 x)) (λ x. inr ((same t).1 x)) w.shown; right = w.right }
    by_one (says.Entry place undone) w = absurd w
    by_one (says.Fold first end counts) w = absurd w
    by_one says.Nothing w = absurd w
