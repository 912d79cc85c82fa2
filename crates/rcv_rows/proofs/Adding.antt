-- Rows that tell of the entries up to a place, and of one entry more.
use Rattle.std.proofs.Common.{◌≡◌, ℕ, ◌+◌, ◌≤◌, ◌<◌, ◌⊎◌, inl, inr, ⊎_elim, Bool, true, false, List, [], ◌∷◌, ◌++◌, length, refl, sym, ap, subst, append_assoc, append-nil, arith}
use Rattle.std.specs.Prelude.{◌↔◌}
use Rattle.std.specs.List.{All}
use Rattle.std.proofs.lemmas.Bool.{cases_lt}
use Rattle.std.proofs.lemmas.List.Elements.{All-nil, All-cons, All-append}
use Rattle.std.proofs.lemmas.Option.{slice_get_within}
use Rattle.rcv_tree.specs.declared.event.Event.{Event}
use Rattle.rcv_tree.specs.declared.entry.Entry.{Entry}
use Rattle.rcv_picture.specs.declared.group.Counts.{Counts}
use Rattle.rcv_picture.specs.declared.group.Says.{Says}
use Rattle.rcv_picture.specs.declared.group.Says.TheVariants as says
use Rattle.rcv_rows.specs.Told.{ArePieces, AreApart, begins_folded, IsRight, IsSaid, IsShown, IsMarked, ShowMarked, AreRows}
use Rattle.rcv_rows.proofs.Saying.{said_left, said_right, said_either}
use Rattle.rcv_rows.specs.Adding.{IsRowOf, IsFolded}

pub pieces_le : (a b : ℕ) (rows : List Says) → ArePieces a b rows → a ≤ b
pieces_le a b [] p = omega (arith, p)
pieces_le a b (says.Entry place undone ∷ rows) p = let le = pieces_le (a + 1) b rows p.1 in omega (arith, le)
pieces_le a b (says.Fold first end counts ∷ rows) p = omega (arith, p.0, p.1, p.2)
pieces_le a b (says.Nothing ∷ rows) p = absurd p
pieces_le a b (says.Arrow s t undone ∷ rows) p = absurd p

pub pieces_more : (a b c : ℕ) (rows more : List Says) → ArePieces a b rows → ArePieces b c more → ArePieces a c (rows ++ more)
pieces_more a b c [] more p q = subst (λ n. ArePieces n c more) (sym p) q
pieces_more a b c (says.Entry place undone ∷ rows) more p q = (p.0, pieces_more (a + 1) b c rows more p.1 q)
pieces_more a b c (says.Fold first end counts ∷ rows) more p q =
    let le = pieces_le b c more q in
    (p.0, p.1, omega (arith, p.2, le), pieces_more end b c rows more p.3 q)
pieces_more a b c (says.Nothing ∷ rows) more p q = absurd p
pieces_more a b c (says.Arrow s t undone ∷ rows) more p q = absurd p

-- Rows that tell up to behind the last shown entry, where nothing between it and a place is marked. Where more rows keep
-- their folds apart, so do these with them.
pub record IsGoing (kept : List Event) (entries : List Entry) (marks : List Bool) (rows : List Says) (behind place : ℕ) : Type 0 where
  pub pieces : ArePieces 0 behind rows
  pub right : All (IsRight kept entries) rows
  pub ahead : (more : List Says) → AreApart more → AreApart (rows ++ more)
  pub order : behind ≤ place
  pub marked : (k : ℕ) → IsShown rows k ↔ ((k < behind) × IsMarked marks k)
  pub hidden : (k : ℕ) → behind ≤ k → k < place → IsMarked marks k → ⊥

-- The same where they tell up to the place, perhaps with a fold as the last.
pub record IsReady (kept : List Event) (entries : List Entry) (marks : List Bool) (rows : List Says) (place : ℕ) : Type 0 where
  pub pieces : ArePieces 0 place rows
  pub right : All (IsRight kept entries) rows
  pub apart : (more : List Says) → AreApart more → begins_folded more ≡ false → AreApart (rows ++ more)
  pub marked : (k : ℕ) → IsShown rows k ↔ ((k < place) × IsMarked marks k)

pub going_start : (kept : List Event) (entries : List Entry) (marks : List Bool) → IsGoing kept entries marks [] 0 0
going_start kept entries marks = record {
  pieces = refl;
  right = All-nil (IsRight kept entries);
  ahead = λ more apart. apart;
  order = omega arith;
  marked = λ k. ((λ shown. absurd shown.1), λ both. absurd (omega (arith, both.0)));
  hidden = λ k le lt m. omega (arith, lt);
}

module _ (kept : List Event) (entries : List Entry) (marks : List Bool) where
  -- an entry that isn't marked is passed
  pub going_on : (rows : List Says) (behind place : ℕ) → IsGoing kept entries marks rows behind place → (IsMarked marks place → ⊥) → IsGoing kept entries marks rows behind (place + 1)
  going_on rows behind place g plain = record {
    pieces = g.pieces;
    right = g.right;
    ahead = g.ahead;
    order = let le = g.order in omega (arith, le);
    marked = g.marked;
    hidden = λ k le lt m. ⊎_elim (λ before. g.hidden k le before m) (λ from. plain (subst (IsMarked marks) (omega (arith, from, lt)) m)) (cases_lt k place);
  }

  -- nothing to fold
  ready_plain : (rows : List Says) (behind place : ℕ) → IsGoing kept entries marks rows behind place → behind ≡ place → IsReady kept entries marks rows place
  ready_plain rows behind place g same = record {
    pieces = subst (λ n. ArePieces 0 n rows) same g.pieces;
    right = g.right;
    apart = λ more apart first. g.ahead more apart;
    marked = λ k. subst (λ n. IsShown rows k ↔ ((k < n) × IsMarked marks k)) same (g.marked k);
  }

  -- a fold shows nothing
  fold_hides : (rows : List Says) (first end : ℕ) (counts : Counts) (k : ℕ) → IsShown (rows ++ says.Fold first end counts ∷ []) k → IsShown rows k
  fold_hides rows first end counts k shown = ⊎_elim
      (λ (l : IsSaid (says.Entry k shown.0) rows). (shown.0, l))
      (λ (r : IsSaid (says.Entry k shown.0) (says.Fold first end counts ∷ [])). ⊎_elim (λ (e : says.Entry k shown.0 ≡ says.Fold first end counts). absurd (cc)) (λ (none : ⊥). absurd none) r)
      (said_either (says.Entry k shown.0) rows (says.Fold first end counts ∷ []) shown.1)

  ready_fold : (rows : List Says) (behind place : ℕ) (counts : Counts) → IsGoing kept entries marks rows behind place → behind < place → IsRight kept entries (says.Fold behind place counts) → IsReady kept entries marks (rows ++ says.Fold behind place counts ∷ []) place
  ready_fold rows behind place counts g lt right = record {
    pieces = pieces_more 0 behind place rows (says.Fold behind place counts ∷ []) g.pieces (refl, lt, omega arith, refl);
    right = All-append (IsRight kept entries) rows (says.Fold behind place counts ∷ []) g.right (All-cons (IsRight kept entries) (says.Fold behind place counts) [] right (All-nil (IsRight kept entries)));
    apart = λ more apart first. subst AreApart (sym (append_assoc rows (says.Fold behind place counts ∷ []) more)) (g.ahead (says.Fold behind place counts ∷ more) (first, apart));
    marked = λ k. (
      (λ shown. let both = (g.marked k).0 (fold_hides rows behind place counts k shown) in (let l = both.0 in omega (arith, l, lt), both.1)),
      λ both. ⊎_elim
          (λ (before : k < behind). let old = (g.marked k).1 (before, both.1) in (old.0, said_left (says.Entry k old.0) rows (says.Fold behind place counts ∷ []) old.1))
          (λ (from : behind ≤ k). absurd (g.hidden k from both.0 both.1))
          (cases_lt k behind),
    );
  }

  pub ready : (old new : List Says) (behind place : ℕ) → IsGoing kept entries marks old behind place → IsFolded kept entries behind place old new → IsReady kept entries marks new place
  ready old new behind place g (inl same) = subst (λ rows. IsReady kept entries marks rows place) (sym same.1) (ready_plain old behind place g same.0)
  ready old new behind place g (inr fold) =
      let f = fold.2 in
      subst (λ rows. IsReady kept entries marks rows place) (sym fold.3)
      (subst (λ row. IsReady kept entries marks (old ++ row ∷ []) place) (sym f.is)
      (ready_fold old behind place f.counts g fold.0 (subst (IsRight kept entries) f.is f.right)))

  -- a row shows its entry
  entry_shows : (rows : List Says) (place : ℕ) (undone : Bool) (k : ℕ) → IsShown (rows ++ says.Entry place undone ∷ []) k → IsShown rows k ⊎ (k ≡ place)
  entry_shows rows place undone k shown = ⊎_elim
      (λ (l : IsSaid (says.Entry k shown.0) rows). inl (shown.0, l))
      (λ (r : IsSaid (says.Entry k shown.0) (says.Entry place undone ∷ [])). ⊎_elim (λ (e : says.Entry k shown.0 ≡ says.Entry place undone). inr (cc)) (λ (none : ⊥). absurd none) r)
      (said_either (says.Entry k shown.0) rows (says.Entry place undone ∷ []) shown.1)

  with_entry : (rows : List Says) (place : ℕ) (undone : Bool) → IsReady kept entries marks rows place → IsMarked marks place → IsRight kept entries (says.Entry place undone) → IsGoing kept entries marks (rows ++ says.Entry place undone ∷ []) (place + 1) (place + 1)
  with_entry rows place undone r mark right = record {
    pieces = pieces_more 0 place (place + 1) rows (says.Entry place undone ∷ []) r.pieces (refl, refl);
    right = All-append (IsRight kept entries) rows (says.Entry place undone ∷ []) r.right (All-cons (IsRight kept entries) (says.Entry place undone) [] right (All-nil (IsRight kept entries)));
    ahead = λ more apart. subst AreApart (sym (append_assoc rows (says.Entry place undone ∷ []) more)) (r.apart (says.Entry place undone ∷ more) apart refl);
    order = omega arith;
    marked = λ k. (
      (λ shown. ⊎_elim
          (λ (old : IsShown rows k). let both = (r.marked k).0 old in (let l = both.0 in omega (arith, l), both.1))
          (λ (same : k ≡ place). (omega (arith, same), subst (IsMarked marks) (sym same) mark))
          (entry_shows rows place undone k shown)),
      λ both. ⊎_elim
          (λ (before : k < place). let old = (r.marked k).1 (before, both.1) in (old.0, said_left (says.Entry k old.0) rows (says.Entry place undone ∷ []) old.1))
          (λ (from : place ≤ k). let same : k ≡ place = (let l = both.0 in omega (arith, from, l)) in (undone, said_right (says.Entry k undone) rows (says.Entry place undone ∷ []) (inl (ap (λ n. says.Entry n undone) same))))
          (cases_lt k place),
    );
    hidden = λ k le lt m. omega (arith, le, lt);
  }

  pub shown_next : (rows : List Says) (place : ℕ) (row : Says) → IsReady kept entries marks rows place → IsMarked marks place → IsRowOf kept entries place row → IsGoing kept entries marks (rows ++ row ∷ []) (place + 1) (place + 1)
  shown_next rows place row r mark is =
      subst (λ x. IsGoing kept entries marks (rows ++ x ∷ []) (place + 1) (place + 1)) (sym is.is)
      (with_entry rows place is.undone r mark (subst (IsRight kept entries) is.is is.right))

  -- at the end all is told
  pub all_told : (rows : List Says) → IsReady kept entries marks rows (length entries) → AreRows kept entries rows
  all_told rows r = record {
    pieces = r.pieces;
    right = r.right;
    apart = subst AreApart (append-nil rows) (r.apart [] tt refl);
  }

  pub marked_told : (rows : List Says) → IsReady kept entries marks rows (length entries) → length marks ≡ length entries → ShowMarked marks rows
  marked_told rows r same k = ((λ shown. ((r.marked k).0 shown).1), λ m. (r.marked k).1 (subst (λ n. k < n) same (slice_get_within marks k true m), m))
