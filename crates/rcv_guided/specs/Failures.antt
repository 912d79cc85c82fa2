-- What a session makes of told failures, and what it answers.
use Rattle.std.specs.Prelude.{◌≡◌, ℕ, ◌+◌, ◌*◌, ◌<◌, ◌==◌, ◌||◌, nat_lt, Bool, true, false, if◌then◌else◌, Option, Some, None, List, [], ◌∷◌, ◌++◌, length, map, slice_index}
use Rattle.std.specs.List.{list_any, sum_by}
use Rattle.rcv_tree.specs.Bits.{has_bit, is_listed}
use Rattle.rcv_tree.specs.declared.entry.Entry.{Entry}
use Rattle.rcv_tree.specs.declared.entry.Entry.TheVariants.{Crash}
use Rattle.rcv_told.specs.Told.{Terms, group_of}
use Rattle.rcv_saves.specs.Counts.{up_to}
use Rattle.rcv_saves.specs.Saves.{SavesView, told_of, IsLastSaved}
use Rattle.rcv_guide.specs.declared.recovery.Recovery.{Recovery}
use Rattle.rcv_guide.specs.Numbers.{numbers_at, with_crash}
use Rattle.rcv_guide.specs.Guide.{GuideView, terms_of, with_numbers, most_told, MayRecover, IsFailureOf, HasRecovered, recovery_entry}
use Rattle.rcv_dialogue.specs.declared.answer.Answer.{Answer}
use Rattle.rcv_dialogue.specs.declared.answer.Answer.TheVariants as answer
use Rattle.rcv_dialogue.specs.declared.answer.Back.{Back}
use Rattle.rcv_dialogue.specs.declared.answer.Cause.TheVariants as cause
use Rattle.rcv_dialogue.specs.declared.answer.Undone.{Undone}
use Rattle.rcv_dialogue.specs.declared.few.Failed.{Failed}
use Rattle.rcv_dialogue.specs.declared.few.Kept.{Kept}
use Rattle.rcv_dialogue.specs.declared.line.Flight.{Flight}
use Rattle.rcv_dialogue.specs.declared.line.Stated.{Stated}
use Rattle.rcv_dialogue.specs.declared.line.ToldRecovery.{ToldRecovery}
use Rattle.rcv_guided.specs.Session.{SessionView, roles_in, forgotten_of, made_in, incarnation_of}
use Rattle.rcv_guided.specs.Hearing.{IsUnchanged, IsUp, IsDown}
use Rattle.rcv_guided.specs.Counts.{made_of, AreStableCounts, roles_where, with_counts}
use Rattle.rcv_guided.specs.Flights.{flights_to_all}

-- ---- what the failed roles have saved

-- The count that a line tells of a role, if it does.
abbrev pub told_count : List Failed → ℕ → Option ℕ
told_count [] r = None
told_count (f ∷ failed) r = if f.role == r then f.count else told_count failed r

-- A role has saved its state after so many of its events: the told count, or else the greatest known one.
abbrev pub IsSavedCount : SessionView → ℕ → Option ℕ → ℕ → Type 0
IsSavedCount s r (Some told) count = count ≡ told
IsSavedCount s r None count = IsLastSaved s.saves r (forgotten_of s r) (made_of s r) count

-- Each has saved so many.
abbrev pub HaveSaved : SessionView → List Failed → List ℕ → Type 0
HaveSaved s failed saved = (r : ℕ) → r < roles_in s → IsSavedCount s r (told_count failed r) (slice_index saved r)

-- The told count is below this line.
abbrev pub is_told_below : ℕ → Option ℕ → Bool
is_told_below line None = false
is_told_below line (Some count) = nat_lt count line

-- The first role whose told count is below its line, with the line.
abbrev pub first_below : (ℕ → ℕ) → List Failed → Option Kept
first_below line [] = None
first_below line (f ∷ failed) =
    if is_told_below (line f.role) f.count then Some (record { role = f.role; count = line f.role }) else first_below line failed

-- This is the first role that is said to have saved fewer events than are stable, with how many are stable; or there is none.
pub record IsFirstBelow (s : SessionView) (failed : List Failed) (first : Option Kept) : Type 0 where
  pub stable : List ℕ
  pub are : AreStableCounts s stable
  pub is : first_below (slice_index stable) failed ≡ first

-- ---- one failure

abbrev pub is_down_in : GuideView → ℕ → Bool
is_down_in g p = (numbers_at g.numbers p).down

-- The session once a role is down: after its crash, if it was up. And what is told of that.
abbrev pub fallen : SessionView → ℕ → SessionView
fallen s p = if is_down_in s.guide p then s else record s { guide = with_numbers s.guide (with_crash s.guide.numbers p) }

abbrev pub fall_of : GuideView → ℕ → List Entry
fall_of g p = if is_down_in g p then [] else Crash p ∷ []

-- What is told of a role's failure in all.
abbrev pub entries_of : GuideView → ℕ → Recovery → List Entry
entries_of g p back = fall_of g p ++ recovery_entry p back ∷ []

-- The role goes back if p fails: it is of p's group, or it keeps fewer events than before.
abbrev pub goes_back : GuideView → GuideView → ℕ → ℕ → Bool
goes_back old new p r = is_listed (group_of (terms_of old) p) r || nat_lt (made_in new r) (made_in old r)

-- What was told of each role's saves, up to what it keeps.
pub record AreCut (old new : SavesView) (roles : ℕ) (kept : ℕ → ℕ) : Type 0 where
  pub steps : new.steps ≡ old.steps
  pub all : length new.told ≡ length old.told
  pub cut : (r : ℕ) → r < roles → told_of new r ≡ up_to (kept r) (told_of old r)

-- The incarnations, one higher for each role that goes back.
pub record AreRaised (old new : List ℕ) (back : ℕ → Bool) : Type 0 where
  pub all : length new ≡ length old
  pub each : (r : ℕ) → r < length old → slice_index new r ≡ (if back r then slice_index old r + 1 else slice_index old r)

-- A role that is down recovers with its group. Each role has saved so many events, and all go back to what that leaves.
pub record GoesBack (p : ℕ) (saved : List ℕ) (old : SessionView) (back : Recovery) (new : SessionView) : Type 0 where
  pub may : MayRecover old.guide p saved
  pub failure : IsFailureOf old.guide p saved back
  pub recovered : HasRecovered old.guide new.guide p saved back
  pub saves : AreCut old.saves new.saves (roles_in old) (made_of new)
  pub incarnations : AreRaised old.incarnations new.incarnations (goes_back old.guide new.guide p)
  pub restored : new.restored ≡ old.restored

-- A role fails: it crashes, unless it is down, and recovers by what is told, or else known, of saves.
pub record FailsOnce (failed : List Failed) (p : ℕ) (old : SessionView) (back : Recovery) (new : SessionView) : Type 0 where
  pub saved : List ℕ
  pub saved_are : HaveSaved old failed saved
  pub back_is : GoesBack p saved (fallen old p) back new

-- ---- one after the other

-- Which of the told roles fail: each, except for those in the group of an earlier one. They went back with that one.
abbrev pub in_turn : Terms → List ℕ → List Failed → List ℕ
in_turn terms gone [] = []
in_turn terms gone (f ∷ failed) =
    if is_listed gone f.role then in_turn terms gone failed else f.role ∷ in_turn terms (gone ++ group_of terms f.role) failed

-- These roles fail in turn. That takes back this, and tells this.
abbrev pub FailInTurn : List Failed → List ℕ → SessionView → List Recovery → List Entry → SessionView → Type 0
FailInTurn failed [] s [] entries new = (entries ≡ []) × (new ≡ s)
FailInTurn failed [] s (back ∷ backs) entries new = ⊥
FailInTurn failed (p ∷ roles) s [] entries new = ⊥
FailInTurn failed (p ∷ roles) s (back ∷ backs) entries new =
    (next : SessionView) × (rest : List Entry) × FailsOnce failed p s back next × FailInTurn failed roles next backs rest new
    × (entries ≡ entries_of s.guide p back ++ rest)

-- ---- the answers

-- One of these concerns the role.
abbrev pub is_concerned : List Recovery → ℕ → Bool
is_concerned backs r = list_any (λ back. has_bit back.concerned.0 r) backs

-- How many events are undone, and what each concerned role keeps.
pub record IsUndoneBy (s : SessionView) (backs : List Recovery) (kept : ℕ → ℕ) (undone : Undone) : Type 0 where
  pub count : undone.undone ≡ sum_by (λ back. back.undone) backs
  pub kept_is : undone.kept.now ≡ with_counts kept (roles_where s (is_concerned backs))

-- Who has gone back: each role whose incarnation is higher than before.
abbrev pub gone_back : SessionView → SessionView → List ℕ
gone_back old new = roles_where new (λ r. nat_lt (incarnation_of old r) (incarnation_of new r))

-- Where a role is then, and in which incarnation.
abbrev pub back_of : SessionView → ℕ → Back
back_of s r = record { role = r; count = made_of s r; incarnation = incarnation_of s r }

-- These roles fail in turn. The answer says what that takes back, who has gone back, and what is in flight to these.
pub record FailAll (s : SessionView) (failed : List Failed) (roles : List ℕ) (undone : Undone) (back : List Back) (flight : List Flight) (added : List Entry) (after : SessionView) : Type 0 where
  pub backs : List Recovery
  pub fail : FailInTurn failed roles s backs added after
  pub undone_is : IsUndoneBy after backs (made_of after) undone
  pub back_is : back ≡ map (back_of after) (gone_back s after)
  pub flight_is : flight ≡ flights_to_all after.guide (gone_back s after)

-- So much more can't be told.
abbrev pub IsFullFor : SessionView → ℕ → Type 0
IsFullFor s count = most_told < s.guide.told + count

-- ---- `fail`

-- No told count is below its line, and the roles fail in turn.
pub record HaveFailed (s : SessionView) (failed : List Failed) (undone : Undone) (back : List Back) (flight : List Flight) (added : List Entry) (after : SessionView) : Type 0 where
  pub above : IsFirstBelow s failed None
  pub all : FailAll s failed (in_turn (terms_of s.guide) [] failed) undone back flight added after

-- It isn't taken: a count is below its line; or a crash and a recovery of each can't be told any more.
abbrev pub IsRefusalOfFail : SessionView → List Failed → Answer → Type 0
IsRefusalOfFail s failed (answer.Illegal (cause.Line kept)) = IsFirstBelow s failed (Some kept)
IsRefusalOfFail s failed answer.Memory = IsFullFor s (2 * length failed)
IsRefusalOfFail s failed _ = ⊥

-- What comes of `fail`.
abbrev pub Fails : SessionView → List Failed → Answer → List Entry → SessionView → Type 0
Fails s failed (answer.Recovered undone back flight) added after = HaveFailed s failed undone back.now flight.now added after
Fails s failed said added after = IsRefusalOfFail s failed said × IsUnchanged s added after

-- ---- `recover`

-- Who of these is started anew: the first.
abbrev pub first_of : List Failed → ℕ
first_of [] = 0
first_of (f ∷ failed) = f.role

-- One of them isn't of the first one's group.
abbrev pub is_apart : GuideView → List Failed → Bool
is_apart g failed = list_any (λ f. if is_listed (group_of (terms_of g) (first_of failed)) f.role then false else true) failed

-- The first role is down, the others are of its group, and none is said to have saved less than is stable.
pub record MayRestart (s : SessionView) (failed : List Failed) : Type 0 where
  pub down : IsDown s (first_of failed)
  pub group : is_apart s.guide failed ≡ false
  pub above : IsFirstBelow s failed None

-- If the line says what the recovery takes back, that is this.
abbrev pub IsStatedAs : Option Stated → Undone → Type 0
IsStatedAs None undone = Unit {0}
IsStatedAs (Some stated) undone = (stated.undone ≡ undone.undone) × (stated.kept ≡ undone.kept.now)

-- The first role recovers, with its group.
pub record HasRestarted (s : SessionView) (told : ToldRecovery) (undone : Undone) (back : List Back) (flight : List Flight) (added : List Entry) (after : SessionView) : Type 0 where
  pub may : MayRestart s told.failed
  pub stated : IsStatedAs told.stated undone
  pub all : FailAll s told.failed (first_of told.failed ∷ []) undone back flight added after

-- It would take back this, but the line says something else.
pub record IsMisstated (s : SessionView) (told : ToldRecovery) (undone : Undone) : Type 0 where
  pub may : MayRestart s told.failed
  pub saved : List ℕ
  pub saved_are : HaveSaved s told.failed saved
  pub back : Recovery
  pub failure : IsFailureOf s.guide (first_of told.failed) saved back
  pub undone_is : IsUndoneBy s (back ∷ []) (slice_index back.kept) undone
  pub other : IsStatedAs told.stated undone → ⊥

-- Another role isn't of its group; or a count is below its line.
pub record IsOfOtherHost (s : SessionView) (failed : List Failed) : Type 0 where
  pub down : IsDown s (first_of failed)
  pub apart : is_apart s.guide failed ≡ true

pub record IsRestartBelow (s : SessionView) (failed : List Failed) (kept : Kept) : Type 0 where
  pub down : IsDown s (first_of failed)
  pub group : is_apart s.guide failed ≡ false
  pub below : IsFirstBelow s failed (Some kept)

-- It isn't taken.
abbrev pub IsRefusalToRestart : SessionView → ToldRecovery → Answer → Type 0
IsRefusalToRestart s told (answer.Illegal cause.Up) = IsUp s (first_of told.failed)
IsRefusalToRestart s told (answer.Illegal cause.Host) = IsOfOtherHost s told.failed
IsRefusalToRestart s told (answer.Illegal (cause.Line kept)) = IsRestartBelow s told.failed kept
IsRefusalToRestart s told (answer.Illegal (cause.Recovery undone)) = IsMisstated s told undone
IsRefusalToRestart s told answer.Memory = IsFullFor s 1
IsRefusalToRestart s told _ = ⊥

-- What comes of `recover`.
abbrev pub Recovers : SessionView → ToldRecovery → Answer → List Entry → SessionView → Type 0
Recovers s told (answer.Recovered undone back flight) added after = HasRestarted s told undone back.now flight.now added after
Recovers s told said added after = IsRefusalToRestart s told said × IsUnchanged s added after
