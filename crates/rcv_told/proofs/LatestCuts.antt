-- What isn't in the latest cut is exactly what is undone.
use Rattle.std.proofs.Common.{◌≡◌, ℕ, ◌<◌, Bool, true, false, ◌&&◌, List, length, refl, sym, ◌∙◌, ap, inl, inr, ⊎_elim, arith}
use Rattle.std.specs.Prelude.{◌↔◌, nat_lt}
use Rattle.std.proofs.lemmas.Bool.{cases_Bool}
use Rattle.std.proofs.lemmas.Bool.Decides.{nat_tests}
use Rattle.rcv_tree.specs.declared.event.Event.{Event}
use Rattle.rcv_model.specs.Net.{Net}
use Rattle.rcv_model.specs.Run.{IsQueued}
use Rattle.rcv_model.specs.Undo.{Depends, one, more, IsUndone, IsCut, IsLatestCut, IsUndoing}
use Rattle.rcv_model.proofs.Cuts.{latest, undo_exactly}

-- what depends on a position stands behind it
later : (net : Net) (h : List Event) {i j : ℕ} → Depends net h i j → i < j
later net h (one l) = l.0
later net h (more d l) = let ih = later net h d in let lt = l.0 in omega (arith, ih, lt)

chained : (net : Net) (h : List Event) {i j k : ℕ} → Depends net h i j → Depends net h j k → Depends net h i k
chained net h d (one l) = more d l
chained net h d (more f l) = more (chained net h d f) l

undone_on : (net : Net) (h : List Event) (bound : ℕ → ℕ) (i j : ℕ) → IsUndone net h bound i → Depends net h i j → IsUndone net h bound j
undone_on net h bound i j (inl a) d = inr (i, a, d)
undone_on net h bound i j (inr u) d = inr (u.0, u.1, chained net h u.2 d)

both : (a b : Bool) → (a && b) ≡ true → (a ≡ true) × (b ≡ true)
both true b e = (refl, e)
both false b e = absurd (cc)

and_so : (a b : Bool) → a ≡ true → b ≡ true → (a && b) ≡ true
and_so a b e f = ap (λ x. x && b) e ∙ f

not_both : {b : Bool} → b ≡ true → b ≡ false → ⊥
not_both t f = let g : true ≡ false = sym t ∙ f in cc

-- the positions of the latest cut, and that outside of them just what is undone stands
pub record LatestCut (net : Net) (bound : ℕ → ℕ) (h : List Event) : Type 0 where
  pub has : ℕ → Bool
  pub latest : IsLatestCut net h bound has
  pub undoes : IsUndoing net h bound has

module _ (net : Net) (bound : ℕ → ℕ) (h : List Event) (has : ℕ → Bool) (undoes : IsUndoing net h bound has) where
  -- the positions of the list that aren't undone are a cut
  inner : ℕ → Bool
  inner i = has i && nat_lt i (length h)

  within : (i : ℕ) → inner i ≡ true → (has i ≡ true) × (i < length h)
  unfolding inner
  within i t = let b = both (has i) (nat_lt i (length h)) t in (b.0, let lt = b.1 in grind (arith, nat_tests))

  is_within : (i : ℕ) → has i ≡ true → i < length h → inner i ≡ true
  unfolding inner
  is_within i t lt = and_so (has i) (nat_lt i (length h)) t (grind (arith, nat_tests))

  inner_cut : IsCut net h bound inner
  inner_cut = record {
    inside = λ i t. (within i t).1;
    lacks = λ i t a. let w = within i t in not_both w.0 ((undoes.undone i w.1).1 (inl a));
    holds = λ i j t d. let w = within j t in
        let lt : i < length h = (let a = later net h d in let b = w.1 in omega (arith, a, b)) in
        ⊎_elim
        (λ s. is_within i s lt)
        (λ f. absurd (not_both w.0 ((undoes.undone j w.1).1 (undone_on net h bound i j ((undoes.undone i lt).0 f) d))))
        (cases_Bool (has i));
  }

  -- so they are in the latest cut
  in_latest : (cut : ℕ → Bool) → IsLatestCut net h bound cut → (i : ℕ) → i < length h → has i ≡ true → cut i ≡ true
  in_latest cut latest i lt t = latest.greatest inner inner_cut i (is_within i t lt)

  outside : (cut : ℕ → Bool) → IsLatestCut net h bound cut → (i : ℕ) → i < length h → (cut i ≡ false) ↔ IsUndone net h bound i
  outside cut latest i lt = (
    λ f. ⊎_elim (λ t. absurd (not_both (in_latest cut latest i lt t) f)) (λ g. (undoes.undone i lt).0 g) (cases_Bool (has i)),
    λ u. ⊎_elim (λ t. absurd (not_undone t u)) (λ f. f) (cases_Bool (cut i)),
  )
    where
      not_undone : cut i ≡ true → IsUndone net h bound i → ⊥
      not_undone t (inl a) = latest.cut.lacks i t a
      not_undone t (inr d) = latest.cut.lacks d.0 (latest.cut.holds d.0 i t d.2) d.1

pub latest_cut : (net : Net) (bound : ℕ → ℕ) (h : List Event) → IsQueued net h → LatestCut net bound h
latest_cut net bound h queued =
    let l = latest net bound h queued in
    let u = undo_exactly net bound h queued in
    record { has = l.0; latest = l.1; undoes = record { kept = l.2; undone = outside net bound h u.0 u.1 l.0 l.1 } }
