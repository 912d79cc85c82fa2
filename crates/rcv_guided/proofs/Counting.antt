-- What is counted of recoveries, and that a failure takes back one thing.
use Rattle.std.proofs.Common.{◌≡◌, ℕ, ◌+◌, ◌<◌, Bool, true, false, List, [], ◌∷◌, ◌++◌, refl, sym, ◌∙◌, ap, ⊎_elim, arith}
use Rattle.std.specs.Prelude.{◌||◌, slice_index}
use Rattle.std.specs.List.{sum_by}
use Rattle.std.proofs.lemmas.Bool.{cases_Bool}
use Rattle.std.proofs.lemmas.List.Folds.{list_any-append}
use Rattle.std.proofs.lemmas.List.Sums.{sum_by-append}
use Rattle.rcv_tree.specs.Bits.{has_bit}
use Rattle.rcv_told.specs.Told.{Remembered}
use Rattle.rcv_guide.specs.declared.recovery.Recovery.{Recovery}
use Rattle.rcv_guide.specs.Guide.{GuideView, roles_of, IsMemory, IsFailureOf}
use Rattle.rcv_guided.specs.declared.taken.Taken.{Taken}
use Rattle.rcv_guided.specs.Failures.{is_concerned}
use Rattle.rcv_guided.specs.Taking.{IsTaken}

or_none : (b : Bool) → (b || false) ≡ b
or_none true = refl
or_none false = refl

-- Of one recovery.
pub one_concerned : (back : Recovery) (r : ℕ) → is_concerned (back ∷ []) r ≡ has_bit back.concerned.0 r
one_concerned back r = or_none (has_bit back.concerned.0 r)

pub one_undone : (back : Recovery) → back.undone ≡ sum_by (λ (x : Recovery). x.undone) (back ∷ [])
one_undone back = omega arith

pub none_taken : (taken : Taken) → taken.undone ≡ 0 → ((r : ℕ) → r < 8 → has_bit taken.concerned.0 r ≡ false) → IsTaken [] taken
none_taken taken undone concerned = record { undone = undone; concerned = concerned }

pub one_taken : (backs : List Recovery) (back : Recovery) (taken new : Taken) → IsTaken backs taken → new.undone ≡ taken.undone + back.undone
    → ((r : ℕ) → r < 8 → has_bit new.concerned.0 r ≡ (has_bit taken.concerned.0 r || has_bit back.concerned.0 r)) → IsTaken (backs ++ back ∷ []) new
one_taken backs back taken new is undone concerned = record {
  undone =
      let a = is.undone in
      let b = sum_by-append (λ (x : Recovery). x.undone) backs (back ∷ []) in
      omega (arith, undone, a, b);
  concerned = λ r lt.
      concerned r lt ∙ ap (λ b. b || has_bit back.concerned.0 r) (is.concerned r lt)
      ∙ ap (λ b. is_concerned backs r || b) (sym (one_concerned back r))
      ∙ sym (list_any-append (λ (x : Recovery). has_bit x.concerned.0 r) backs (back ∷ []));
}

-- One failure takes back one thing.
module _ (g : GuideView) (m : Remembered) (is : IsMemory g m) (p : ℕ) (saved : List ℕ) (a b : Recovery) (fa : IsFailureOf g p saved a) (fb : IsFailureOf g p saved b) where
  pub undone_same : a.undone ≡ b.undone
  undone_same = let x = (fa.tells m is).undone in let y = (fb.tells m is).undone in omega (arith, x, y)

  pub kept_same : (r : ℕ) → r < roles_of g → slice_index a.kept r ≡ slice_index b.kept r
  kept_same r lt = (fa.tells m is).counts r lt ∙ sym ((fb.tells m is).counts r lt)

  pub concerned_same : (r : ℕ) → r < 8 → has_bit a.concerned.0 r ≡ has_bit b.concerned.0 r
  concerned_same r lt = ⊎_elim
      (λ t. t ∙ sym (((fb.failed m is).concerned_is r lt).1 (((fa.failed m is).concerned_is r lt).0 t)))
      (λ f. ⊎_elim
      (λ t. absurd (let other = ((fa.failed m is).concerned_is r lt).1 (((fb.failed m is).concerned_is r lt).0 t) in cc))
      (λ e. f ∙ sym e)
      (cases_Bool (has_bit b.concerned.0 r)))
      (cases_Bool (has_bit a.concerned.0 r))
