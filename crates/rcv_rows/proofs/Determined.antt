-- What is shown determines the rows, and the wires but for their order.
use Rattle.std.proofs.Common.{◌≡◌, ℕ, ◌+◌, ◌≤◌, ◌<◌, inl, inr, ⊎_elim, Bool, true, false, List, [], ◌∷◌, length, refl, sym, ◌∙◌, ap, subst, arith}
use Rattle.std.specs.Prelude.{◌↔◌, slice_range}
use Rattle.std.specs.List.{All}
use Rattle.std.proofs.lemmas.Bool.{cases_lt}
use Rattle.std.proofs.lemmas.List.Elements.{All-head, All-tail}
use Rattle.rcv_tree.specs.declared.event.Event.{Event}
use Rattle.rcv_tree.specs.declared.entry.Entry.{Entry}
use Rattle.rcv_picture.specs.declared.group.Counts.{Counts}
use Rattle.rcv_picture.specs.declared.group.Says.{Says}
use Rattle.rcv_picture.specs.declared.group.Says.TheVariants as says
use Rattle.rcv_fates.specs.Fates.{IsUndoneAt}
use Rattle.rcv_rows.specs.Told.{ArePieces, AreApart, begins_folded, AreCounts, IsRight, IsSaid, IsShown, IsWireIn}
use Rattle.rcv_rows.specs.Laws.{RowsAreDetermined, WiresAreDetermined}
use Rattle.rcv_rows.proofs.Counting.{same_number}

-- two tests of one thing are the same
same_test : (P : Type 0) (a b : Bool) → (a ≡ true) ↔ P → (b ≡ true) ↔ P → a ≡ b
same_test P true b x y = sym (y.1 (x.0 refl))
same_test P false true x y = x.1 (y.0 refl)
same_test P false false x y = refl

same_counts : (kept : List Event) (run : List Entry) (a b : Counts) → AreCounts kept run a → AreCounts kept run b → a ≡ b
same_counts kept run a b x y =
    let e0 : a.sends ≡ b.sends = x.sends ∙ sym y.sends in
    let e1 : a.receives ≡ b.receives = x.receives ∙ sym y.receives in
    let e2 : a.crashes ≡ b.crashes = x.crashes ∙ sym y.crashes in
    let e3 : a.recoveries ≡ b.recoveries = x.recoveries ∙ sym y.recoveries in
    let e4 : a.undone ≡ b.undone = same_number kept run a.undone b.undone x.undone y.undone in
    ap (λ n. counts n a.receives a.crashes a.recoveries a.undone) e0
    ∙ ap (λ n. counts b.sends n a.crashes a.recoveries a.undone) e1
    ∙ ap (λ n. counts b.sends b.receives n a.recoveries a.undone) e2
    ∙ ap (λ n. counts b.sends b.receives b.crashes n a.undone) e3
    ∙ ap (λ n. counts b.sends b.receives b.crashes b.recoveries n) e4
  where
    counts : ℕ → ℕ → ℕ → ℕ → ℕ → Counts
    counts s r c v u = record { sends = s; receives = r; crashes = c; recoveries = v; undone = u }

-- the rows from a place on
record AreRest (kept : List Event) (entries : List Entry) (from : ℕ) (rows : List Says) : Type 0 where
  pieces : ArePieces from (length entries) rows
  right : All (IsRight kept entries) rows
  apart : AreApart rows

-- what is shown from a place on isn't before it
shown_from : (a b : ℕ) (rows : List Says) (k : ℕ) → ArePieces a b rows → IsShown rows k → a ≤ k
shown_from a b [] k p s = absurd s.1
shown_from a b (says.Entry place undone ∷ rows) k p s = ⊎_elim
    (λ (e : says.Entry k s.0 ≡ says.Entry place undone). let f : k ≡ place = cc in omega (arith, f, p.0))
    (λ (r : IsSaid (says.Entry k s.0) rows). let le = shown_from (a + 1) b rows k p.1 (s.0, r) in omega (arith, le))
    s.1
shown_from a b (says.Fold first end counts ∷ rows) k p s = ⊎_elim
    (λ (e : says.Entry k s.0 ≡ says.Fold first end counts). absurd (cc))
    (λ (r : IsSaid (says.Entry k s.0) rows). let le = shown_from end b rows k p.3 (s.0, r) in omega (arith, le, p.0, p.1))
    s.1
shown_from a b (says.Nothing ∷ rows) k p s = absurd p
shown_from a b (says.Arrow x y undone ∷ rows) k p s = absurd p

-- what begins with no fold shows its first entry
first_shown : (a b : ℕ) (rows : List Says) → ArePieces a b rows → a < b → begins_folded rows ≡ false → IsShown rows a
first_shown a b [] p lt plain = absurd (omega (arith, p, lt))
first_shown a b (says.Entry place undone ∷ rows) p lt plain = (undone, inl (ap (λ n. says.Entry n undone) (sym p.0)))
first_shown a b (says.Fold first end counts ∷ rows) p lt plain = absurd (cc)
first_shown a b (says.Nothing ∷ rows) p lt plain = absurd p
first_shown a b (says.Arrow x y undone ∷ rows) p lt plain = absurd p

-- behind a fold the same is shown
behind_fold : (first end : ℕ) (counts : Counts) (rows : List Says) (k : ℕ) → IsShown (says.Fold first end counts ∷ rows) k → IsShown rows k
behind_fold first end counts rows k s = ⊎_elim
    (λ (e : says.Entry k s.0 ≡ says.Fold first end counts). absurd (cc))
    (λ (r : IsSaid (says.Entry k s.0) rows). (s.0, r))
    s.1

-- behind an entry too, but for itself
behind_entry : (place : ℕ) (undone : Bool) (rows : List Says) (k : ℕ) → place < k → IsShown (says.Entry place undone ∷ rows) k → IsShown rows k
behind_entry place undone rows k lt s = ⊎_elim
    (λ (e : says.Entry k s.0 ≡ says.Entry place undone). let f : k ≡ place = cc in absurd (omega (arith, f, lt)))
    (λ (r : IsSaid (says.Entry k s.0) rows). (s.0, r))
    s.1

module _ (kept : List Event) (entries : List Entry) where
  tail : (from next : ℕ) (x : Says) (rows : List Says) → AreRest kept entries from (x ∷ rows) → ArePieces next (length entries) rows → AreApart rows → AreRest kept entries next rows
  tail from next x rows r pieces apart = record { pieces = pieces; right = All-tail (IsRight kept entries) x rows r.right; apart = apart }

  -- a fold ends where the next entry is shown, so no other is longer
  no_longer : (a e f : ℕ) (c d : Counts) (xs ys : List Says) → AreRest kept entries a (says.Fold a e c ∷ xs) → AreRest kept entries a (says.Fold a f d ∷ ys) → ((k : ℕ) → IsShown (says.Fold a e c ∷ xs) k → IsShown (says.Fold a f d ∷ ys) k) → e < f → ⊥
  no_longer a e f c d xs ys x y same lt =
      let shown = first_shown e (length entries) xs x.pieces.3 (let le = y.pieces.2 in omega (arith, le, lt)) x.apart.0 in
      let le = shown_from f (length entries) ys e y.pieces.3 (behind_fold a f d ys e (same e (shown.0, inr shown.1))) in
      omega (arith, le, lt)

  same_rest : (a : ℕ) (xs ys : List Says) → AreRest kept entries a xs → AreRest kept entries a ys → ((k : ℕ) → IsShown xs k ↔ IsShown ys k) → xs ≡ ys
  same_rest a [] [] x y same = refl
  same_rest a [] (says.Entry q v ∷ ys) x y same = absurd (((same q).1 (v, inl refl)).1)
  same_rest a [] (says.Fold f e c ∷ ys) x y same = let p = x.pieces in let q = y.pieces in absurd (omega (arith, p, q.0, q.1, q.2))
  same_rest a [] (says.Nothing ∷ ys) x y same = absurd y.pieces
  same_rest a [] (says.Arrow s t u ∷ ys) x y same = absurd y.pieces
  same_rest a (says.Entry p u ∷ xs) [] x y same = absurd (((same p).0 (u, inl refl)).1)
  same_rest a (says.Entry p u ∷ xs) (says.Entry q v ∷ ys) x y same =
      let places : p ≡ q = x.pieces.0 ∙ sym y.pieces.0 in
      let undone : u ≡ v = same_test (IsUndoneAt kept entries q) u v
      (subst (λ n. (u ≡ true) ↔ IsUndoneAt kept entries n) places (All-head (IsRight kept entries) (says.Entry p u) xs x.right))
      (All-head (IsRight kept entries) (says.Entry q v) ys y.right)
      in
      let rest : xs ≡ ys = same_rest (a + 1) xs ys
      (tail a (a + 1) (says.Entry p u) xs x x.pieces.1 x.apart)
      (tail a (a + 1) (says.Entry q v) ys y y.pieces.1 y.apart)
      (λ k. (
        (λ s. behind_entry q v ys k (let le = shown_from (a + 1) (length entries) xs k x.pieces.1 s in let e = y.pieces.0 in omega (arith, le, e)) ((same k).0 (s.0, inr s.1))),
        λ s. behind_entry p u xs k (let le = shown_from (a + 1) (length entries) ys k y.pieces.1 s in let e = x.pieces.0 in omega (arith, le, e)) ((same k).1 (s.0, inr s.1)),
      ))
      in
      ap (λ n. says.Entry n u ∷ xs) places ∙ ap (λ b. says.Entry q b ∷ xs) undone ∙ ap (λ l. says.Entry q v ∷ l) rest
  same_rest a (says.Entry p u ∷ xs) (says.Fold f e c ∷ ys) x y same =
      let le = shown_from e (length entries) ys p y.pieces.3 (behind_fold f e c ys p ((same p).0 (u, inl refl))) in
      let at = x.pieces.0 in
      let q = y.pieces in
      absurd (omega (arith, le, at, q.0, q.1))
  same_rest a (says.Entry p u ∷ xs) (says.Nothing ∷ ys) x y same = absurd y.pieces
  same_rest a (says.Entry p u ∷ xs) (says.Arrow s t v ∷ ys) x y same = absurd y.pieces
  same_rest a (says.Fold f e c ∷ xs) [] x y same = let p = x.pieces in let q = y.pieces in absurd (omega (arith, q, p.0, p.1, p.2))
  same_rest a (says.Fold f e c ∷ xs) (says.Entry q v ∷ ys) x y same =
      let le = shown_from e (length entries) xs q x.pieces.3 (behind_fold f e c xs q ((same q).1 (v, inl refl))) in
      let at = y.pieces.0 in
      let p = x.pieces in
      absurd (omega (arith, le, at, p.0, p.1))
  same_rest a (says.Fold f e c ∷ xs) (says.Fold g h d ∷ ys) x y same =
      let x' : AreRest kept entries a (says.Fold a e c ∷ xs) = subst (λ n. AreRest kept entries a (says.Fold n e c ∷ xs)) x.pieces.0 x in
      let y' : AreRest kept entries a (says.Fold a h d ∷ ys) = subst (λ n. AreRest kept entries a (says.Fold n h d ∷ ys)) y.pieces.0 y in
      let there : (k : ℕ) → IsShown xs k → IsShown ys k = λ k s. behind_fold g h d ys k ((same k).0 (s.0, inr s.1)) in
      let back : (k : ℕ) → IsShown ys k → IsShown xs k = λ k s. behind_fold f e c xs k ((same k).1 (s.0, inr s.1)) in
      let ends : e ≡ h = ⊎_elim
      (λ (lt : e < h). absurd (no_longer a e h c d xs ys x' y' (λ k s. let r = there k (behind_fold a e c xs k s) in (r.0, inr r.1)) lt))
      (λ (le : h ≤ e). ⊎_elim
      (λ (lt : h < e). absurd (no_longer a h e d c ys xs y' x' (λ k s. let r = back k (behind_fold a h d ys k s) in (r.0, inr r.1)) lt))
      (λ (other : e ≤ h). let both : e ≡ h = omega (arith, le, other) in both)
      (cases_lt h e))
      (cases_lt e h)
      in
      let counted : c ≡ d = same_counts kept (slice_range entries a h) c d
      (subst (λ n. AreCounts kept (slice_range entries a n) c) ends (All-head (IsRight kept entries) (says.Fold a e c) xs x'.right))
      (All-head (IsRight kept entries) (says.Fold a h d) ys y'.right)
      in
      let rest : xs ≡ ys = same_rest h xs ys
      (subst (λ n. AreRest kept entries n xs) ends (tail a e (says.Fold f e c) xs x x.pieces.3 x.apart.1))
      (tail a h (says.Fold g h d) ys y y.pieces.3 y.apart.1)
      (λ k. (there k, back k))
      in
      ap (λ n. says.Fold n e c ∷ xs) (x.pieces.0 ∙ sym y.pieces.0)
      ∙ ap (λ n. says.Fold g n c ∷ xs) ends
      ∙ ap (λ n. says.Fold g h n ∷ xs) counted
      ∙ ap (λ l. says.Fold g h d ∷ l) rest
  same_rest a (says.Fold f e c ∷ xs) (says.Nothing ∷ ys) x y same = absurd y.pieces
  same_rest a (says.Fold f e c ∷ xs) (says.Arrow s t v ∷ ys) x y same = absurd y.pieces
  same_rest a (says.Nothing ∷ xs) ys x y same = absurd x.pieces
  same_rest a (says.Arrow s t v ∷ xs) ys x y same = absurd x.pieces

pub rows_determined : RowsAreDetermined
rows_determined kept entries rows other x y same = same_rest kept entries 0 rows other
    (record { pieces = x.pieces; right = x.right; apart = x.apart })
    (record { pieces = y.pieces; right = y.right; apart = y.apart })
    same

-- what is said is so
said_right_is : (P : Says → Type 0) (x : Says) (xs : List Says) → All P xs → IsSaid x xs → P x
said_right_is P x [] all s = absurd s
said_right_is P x (y ∷ xs) all (inl e) = subst P (sym e) (All-head P y xs all)
said_right_is P x (y ∷ xs) all (inr s) = said_right_is P x xs (All-tail P y xs all) s

pub wires_determined : WiresAreDetermined
wires_determined net kept entries rows wires other x y s t undone said =
    let one = said_right_is (IsWireIn net kept entries (IsShown rows)) (says.Arrow s t undone) wires x.right said in
    let d = y.all s t one.message one.shown in
    let two = said_right_is (IsWireIn net kept entries (IsShown rows)) (says.Arrow s t d.0) other y.right d.1 in
    let same : d.0 ≡ undone = same_test (IsUndoneAt kept entries t) d.0 undone two.right one.right in
    subst (λ b. IsSaid (says.Arrow s t b) other) same d.1
