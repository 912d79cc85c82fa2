-- What calls leave of a house, and of a turn.
use Rattle.std.proofs.Common.{◌≡◌, ℕ, ◌≤◌, List, refl, inl, inr, ⊎_elim, ◌⊎◌, arith}
use Rattle.std.specs.Prelude.{false, Result, Ok, Err, is_err, OnOk, OnErr}
use Rattle.rcv_model.specs.Final.{IsCrashed, IsLeastOf}
use Rattle.rcv_session.specs.Session.{roles_of}
use Rattle.rcv_core.specs.Book.{BookView, state_of}
use Rattle.rcv_alone.specs.Steps.{HasStepped}
use Rattle.rcv_cells.specs.declared.house.House.{House}
use Rattle.rcv_cells.specs.Home.{AreHome, HaveBases, SameBases, HasGrown}
use Rattle.rcv_super.specs.Super.{HasWatches}
use Rattle.rcv_super.specs.Steps.{HasRecovered}
use Rattle.rcv_super.specs.Rounds.{NoneIsCrashed, HasRecoveredBeside, HasGoneRound}
use Rattle.rcv_super.specs.InOrder.{IsInOrderAt, StaysInOrder, HasMadeTurn, HasFailed}
use Rattle.rcv_super.proofs.Bases.{held_on}
use Rattle.rcv_super.proofs.Ending.{step_on, recovery_on, round_on, recovered_together, round_together, not_several, more_entries}

-- a house in order
pub in_order_at : {T E : Type 0} (result : Result T E) (line : List ℕ) (house : House) → OnOk result (AreHome house.book house.lanes.items)
    → OnOk result (HaveBases (roles_of house.book.setup) line house.lanes.items) → HasWatches house.watch house.watches.items
    → OnOk result (IsInOrderAt line house)
in_order_at (Ok x) line house home bases watched = record { home = home; bases = bases; watched = watched }
in_order_at (Err e) line house home bases watched = tt

pub stays_in_order : {T E : Type 0} (result : Result T E) (old new : House) → OnOk result (AreHome new.book new.lanes.items)
    → OnOk result (SameBases old.lanes.items new.lanes.items) → HasWatches new.watch new.watches.items
    → OnOk result (StaysInOrder old new)
stays_in_order (Ok x) old new home bases watched = record { home = home; bases = bases; watched = watched }
stays_in_order (Err e) old new home bases watched = tt

-- one that stays in order has forgotten what it had
pub stays_at : {T E : Type 0} (result : Result T E) (line : List ℕ) (old new : House) → OnOk result (HasGrown old.book new.book)
    → HaveBases (roles_of old.book.setup) line old.lanes.items → OnOk result (StaysInOrder old new) → OnOk result (IsInOrderAt line new)
stays_at (Ok x) line old new grown bases stays = record {
  home = stays.home;
  bases = held_on old.book new.book line old.lanes.items new.lanes.items grown bases stays.bases;
  watched = stays.watched;
}
stays_at (Err e) line old new grown bases stays = tt

-- one worker's turn
pub stepped_turn : {T E : Type 0} (result : Result T E) (workers : ℕ) (old new : BookView) → workers ≡ 1 → OnOk result (HasStepped old new)
    → OnOk result (HasMadeTurn workers old new)
stepped_turn (Ok x) workers old new one stepped = record {
  gone_on = step_on old new stepped;
  alone = λ _. stepped;
  together = not_several workers old new one;
}
stepped_turn (Err e) workers old new one stepped = tt

-- a turn of several: a recovery with what runs beside it, or a round
pub recovered_turn : {T E : Type 0} (result : Result T E) (workers : ℕ) (old new : BookView) (role : ℕ) → 2 ≤ workers
    → IsLeastOf (IsCrashed (state_of old)) role → OnOk result (HasRecoveredBeside old new role) → OnOk result (HasMadeTurn workers old new)
recovered_turn (Ok x) workers old new role several least recovered = record {
  gone_on = recovery_on old new role recovered;
  alone = λ one. absurd (omega (arith, one, several));
  together = λ _. recovered_together old new role least recovered;
}
recovered_turn (Err e) workers old new role several least recovered = tt

pub round_turn : {T E : Type 0} (result : Result T E) (workers : ℕ) (old new : BookView) → 2 ≤ workers → NoneIsCrashed old
    → OnOk result (HasGoneRound old new) → OnOk result (HasMadeTurn workers old new)
round_turn (Ok x) workers old new several none round = record {
  gone_on = round_on old new round;
  alone = λ one. absurd (omega (arith, one, several));
  together = λ _. round_together old new none round;
}
round_turn (Err e) workers old new several none round = tt

-- a turn that failed
pub stayed_turn : {T E : Type 0} (result : Result T E) (workers : ℕ) (old new : BookView) → OnErr result (new ≡ old)
    → OnErr result (HasFailed workers old new)
stayed_turn (Ok x) workers old new same = tt
stayed_turn (Err e) workers old new same = record { at_most = inl same; same = λ _. same }

pub failed_in_place : {T E : Type 0} (result : Result T E) (workers : ℕ) (old new : BookView) → new ≡ old → OnErr result (HasFailed workers old new)
failed_in_place (Ok x) workers old new same = tt
failed_in_place (Err e) workers old new same = record { at_most = inl same; same = λ _. same }

pub recovered_failed : {T E : Type 0} (result : Result T E) (workers : ℕ) (old new : BookView) (role : ℕ) → 2 ≤ workers
    → IsLeastOf (IsCrashed (state_of old)) role → OnErr result ((new ≡ old) ⊎ HasRecovered old new role) → OnErr result (HasFailed workers old new)
recovered_failed (Ok x) workers old new role several least some = tt
recovered_failed (Err e) workers old new role several least some = record {
  at_most = ⊎_elim (λ same. inl same) (λ recovered. inr (role, least, recovered)) some;
  same = λ one. absurd (omega (arith, one, several));
}

-- what holds of a call that succeeded
pub when_ok : {T E : Type 0} (result : Result T E) (P : Type 0) → is_err result ≡ false → OnOk result P → P
when_ok (Ok x) P ok holds = holds
when_ok (Err e) P ok holds = absurd (cc)

-- a turn that fails may leave the book as it was, and a turn that is made never does
fails_in_place : (workers : ℕ) (book : BookView) → HasFailed workers book book
fails_in_place workers book = record { at_most = inl refl; same = λ _. refl }

never_makes_nothing : (workers : ℕ) (book : BookView) → HasMadeTurn workers book book → ⊥
never_makes_nothing workers book turned = let more = more_entries book book turned.gone_on in omega (arith, more)
