-- Laws: told sessions keep runs, a failure leaves the latest cut, the table foresees it, forgetting changes no answer, and what
-- was told is a legal journal in hindsight.
use Rattle.std.specs.Prelude.{◌≡◌, ℕ, ◌+◌, ◌-◌, ◌≤◌, ◌↔◌, Bool, true, List, ◌++◌, Some, slice_get}
use Rattle.rcv_tree.specs.Bits.{has_bit}
use Rattle.rcv_tree.specs.declared.entry.Entry.{Entry}
use Rattle.rcv_tree.specs.declared.entry.Entry.TheVariants.{Recover}
use Rattle.rcv_tree.specs.declared.role.RoleSet.{RoleSet}
use Rattle.rcv_model.specs.Net.{Net}
use Rattle.rcv_model.specs.Run.{Act, acts, IsRun}
use Rattle.rcv_model.specs.Journal.{numbers_at}
use Rattle.rcv_model.specs.Next.{IsAccepted, IsProper}
use Rattle.rcv_model.specs.TableLaws.{IsForeseen}
use Rattle.rcv_model.specs.Undo.{IsLatestCut, IsUndoing, picked}
use Rattle.rcv_told.specs.Told.{Terms, Remembered, nothing_told, told, told_after, told_from, made, group_of, bound_at, HasFailed, MayBeTold, IsTold, IsToldFrom}
use Rattle.rcv_told.specs.Hindsight.{FailBySteps, IsLegalInHindsight}
use Rattle.rcv_told.specs.Forgetting.{IsShorter, MayBeToldAbove, AreToldAbove}

-- The terms are those of an accepted protocol of at most eight roles.
pub record AreAccepted (terms : Terms) : Type 0 where
  pub few : terms.roles ≤ 8
  pub proper : IsProper terms.net terms.roles
  pub accepted : IsAccepted terms.net terms.roles

-- Whatever is told, the kept events are a run after each thing told.
abbrev pub ToldEventsKeepRuns : Type 0
ToldEventsKeepRuns =
    (terms : Terms) (entries front back : List Entry) → AreAccepted terms → IsTold terms entries → front ++ back ≡ entries
    → IsRun terms.net (told terms front).held

-- A failure undoes exactly the lost events and what depends on them, whatever was saved: its counts needn't be multiples of
-- anything. What is left are the events at the positions of the latest cut that lacks what was lost.
pub record LeavesLatestCut (terms : Terms) (m : Remembered) (p : ℕ) (saved : ℕ → ℕ) (after : Remembered) : Type 0 where
  pub has : ℕ → Bool
  pub latest : IsLatestCut terms.net m.held (bound_at m (group_of terms p) saved) has
  pub undoes : IsUndoing terms.net m.held (bound_at m (group_of terms p) saved) has
  pub left : after.held ≡ picked has m.held

abbrev pub FailuresLeaveTheLatestCut : Type 0
FailuresLeaveTheLatestCut =
    (terms : Terms) (front : List Entry) (p : ℕ) (saved : ℕ → ℕ) (concerned : RoleSet) (kept : List ℕ) (undone : ℕ)
    → AreAccepted terms → IsTold terms front → HasFailed terms (told terms front) p saved concerned kept undone
    → LeavesLatestCut terms (told terms front) p saved (told_after terms (told terms front) (Recover p concerned kept undone))

-- Who isn't concerned keeps all.
abbrev pub BystandersKeepAll : Type 0
BystandersKeepAll =
    (terms : Terms) (front : List Entry) (p : ℕ) (saved : ℕ → ℕ) (concerned : RoleSet) (kept : List ℕ) (undone : ℕ) (q : ℕ)
    → AreAccepted terms → IsTold terms front → HasFailed terms (told terms front) p saved concerned kept undone
    → (has_bit concerned.0 q ≡ true → ⊥)
    → made (told_after terms (told terms front) (Recover p concerned kept undone)) q ≡ made (told terms front) q

-- Who goes back restarts at one of the table's points, whatever was saved: the first event that a role loses is at a restart
-- point from the first event that some failed role hasn't saved.
abbrev pub LosersRestartByTheTable : Type 0
LosersRestartByTheTable =
    (terms : Terms) (front : List Entry) (p : ℕ) (saved : ℕ → ℕ) (concerned : RoleSet) (kept : List ℕ) (undone : ℕ) (q : ℕ) (own : Act)
    → AreAccepted terms → IsTold terms front → HasFailed terms (told terms front) p saved concerned kept undone
    → slice_get (acts q (told terms front).held) (made (told_after terms (told terms front) (Recover p concerned kept undone)) q) ≡ Some own
    → IsForeseen terms.net (group_of terms p) saved (told terms front).held q own.point

-- Forgetting changes no later answer: what may be told to the shorter memory may be told to the longer one, and the other way round, unless
-- a failure would lose what is forgotten. After it the memories are still of one session.
abbrev pub ForgettingChangesNoAnswer : Type 0
ForgettingChangesNoAnswer =
    (terms : Terms) (old new : Remembered) (e : Entry) → IsShorter terms.net old new
    → (MayBeTold terms new e ↔ MayBeToldAbove terms old new e)
    × (MayBeTold terms new e → IsShorter terms.net (told_after terms old e) (told_after terms new e))

-- The same holds for all that is told later.
abbrev pub ForgettingChangesNoLaterAnswer : Type 0
ForgettingChangesNoLaterAnswer =
    (terms : Terms) (old new : Remembered) (entries : List Entry) → IsShorter terms.net old new
    → (IsToldFrom terms new entries ↔ AreToldAbove terms old new entries)
    × (IsToldFrom terms new entries → IsShorter terms.net (told_from terms old entries) (told_from terms new entries))

-- Who forgets twice has forgotten.
abbrev pub ForgettingAddsUp : Type 0
ForgettingAddsUp =
    (net : Net) (a b c : Remembered) → IsShorter net a b → IsShorter net b c → IsShorter net a c

-- If all failures are by steps, what was told is a legal journal in hindsight, for each limit that the roles kept.
abbrev pub ToldJournalsAreLegal : Type 0
ToldJournalsAreLegal =
    (terms : Terms) (every : ℕ → ℕ) (limit : ℕ) (entries : List Entry) → AreAccepted terms → IsTold terms entries
    → FailBySteps terms every (nothing_told terms.roles) entries → ((r : ℕ) → (numbers_at (told terms entries).roles r).raw ≤ limit)
    → IsLegalInHindsight terms every limit entries
