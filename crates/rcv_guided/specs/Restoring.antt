-- Lines of a snapshot: what a session restores by each, and when it fits; and the lines that restore a session.
use Rattle.std.specs.Prelude.{◌≡◌, ◌⊎◌, ℕ, ◌<◌, ◌≤◌, ◌^◌, List, [], ◌∷◌, ◌++◌, flat_map, map, slice_set, Some}
use Rattle.std.specs.List.{range_with_len}
use Rattle.rcv_tree.specs.declared.entry.Entry.{Entry}
use Rattle.rcv_tree.specs.declared.event.Event.{Event}
use Rattle.rcv_tree.specs.Events.{message_sent}
use Rattle.rcv_saves.specs.Counts.{with_count}
use Rattle.rcv_saves.specs.Saves.{told_of, with_told}
use Rattle.rcv_guide.specs.declared.standing.Standing.{Standing}
use Rattle.rcv_guide.specs.Guide.{net_for, most_told}
use Rattle.rcv_guide.specs.Restoring.{begun_again, standing_of, MayStand, MayLie, MayBeAgain, with_standing, with_seed, with_again}
use Rattle.rcv_guide.specs.Remembered.{seeds_of, AreRemembered}
use Rattle.rcv_dialogue.specs.declared.line.Again.{Again}
use Rattle.rcv_dialogue.specs.declared.line.Again.TheVariants as again
use Rattle.rcv_dialogue.specs.declared.line.Extent.{Extent}
use Rattle.rcv_dialogue.specs.declared.line.Flight.{Flight}
use Rattle.rcv_dialogue.specs.declared.line.ToldStanding.{ToldStanding}
use Rattle.rcv_dialogue.specs.declared.answer.Answer.{Answer}
use Rattle.rcv_dialogue.specs.declared.answer.Answer.TheVariants as answer
use Rattle.rcv_dialogue.specs.declared.answer.Cause.TheVariants as cause
use Rattle.rcv_guided.specs.Session.{SessionView, roles_in, incarnation_of}
use Rattle.rcv_guided.specs.Counts.{made_of}

-- Only lines of a snapshot were told, its first one among them.
abbrev pub IsRestoring : SessionView → Type 0
IsRestoring s = s.restored ≡ Some s.guide.told

abbrev pub standing_in : ToldStanding → Standing
standing_in told =
    record { forgotten = told.kept; place = told.place; raw = told.raw; attempt = told.attempt; clock = told.clock; down = told.down }

-- No save was told of a role; nor of any declared one.
abbrev pub IsUnsaved : SessionView → ℕ → Type 0
IsUnsaved s r = told_of s.saves r ≡ []

abbrev pub AreUnsaved : SessionView → Type 0
AreUnsaved s = (r : ℕ) → r < roles_in s → IsUnsaved s r

-- A line fits what was restored before it. The first one comes if nothing was told, and saves come after all else.
pub record MayBegin (s : SessionView) (told : Extent) : Type 0 where
  pub nothing : s.guide.told ≡ 0
  pub unsaved : AreUnsaved s
  pub told_is : told.told ≤ most_told
  pub least : 1 ≤ told.room
  pub most : told.room < 2 ^ 31

pub record MayRestoreRole (s : SessionView) (told : ToldStanding) : Type 0 where
  pub restoring : IsRestoring s
  pub stand : MayStand s.guide told.role (standing_in told)
  pub incarnation : told.incarnation ≤ s.guide.told
  pub unsaved : IsUnsaved s told.role

pub record MayRestoreFlight (s : SessionView) (told : Flight) : Type 0 where
  pub restoring : IsRestoring s
  pub lie : MayLie s.guide told.from told.message
  pub receiver : (net_for s.guide).receiver told.message.point ≡ told.to

pub record MayRestoreEvent (s : SessionView) (e : Event) : Type 0 where
  pub restoring : IsRestoring s
  pub again : MayBeAgain s.guide e

pub record MayRestoreSave (s : SessionView) (r count : ℕ) : Type 0 where
  pub restoring : IsRestoring s
  pub made : count ≤ made_of s r

abbrev pub MayRestore : SessionView → Again → Type 0
MayRestore s (again.Session told) = MayBegin s told
MayRestore s (again.Role told) = MayRestoreRole s told
MayRestore s (again.Flight told) = MayRestoreFlight s told
MayRestore s (again.Event e) = MayRestoreEvent s e
MayRestore s (again.Save r count) = MayRestoreSave s r count

-- The session with what the line restores.
abbrev pub restored_by : SessionView → Again → SessionView
restored_by s (again.Session told) =
    record s { guide = begun_again s.guide.protocol s.guide.plan told.room told.told; restored = Some told.told }
restored_by s (again.Role told) =
    record s {
      guide = with_standing s.guide told.role (standing_in told);
      incarnations = slice_set s.incarnations told.role told.incarnation;
    }
restored_by s (again.Flight told) = record s { guide = with_seed s.guide told.from told.message }
restored_by s (again.Event e) = record s { guide = with_again s.guide e }
restored_by s (again.Save r count) = record s { saves = with_told s.saves r (with_count count (told_of s.saves r)) }

-- It is taken; or it doesn't fit; or it does, and there was no memory for it.
pub record IsRestored (s : SessionView) (told : Again) (said : Answer) (after : SessionView) : Type 0 where
  pub may : MayRestore s told
  pub says : said ≡ answer.Done
  pub is : after ≡ restored_by s told

pub record IsUnfit (s : SessionView) (told : Again) (said : Answer) (after : SessionView) : Type 0 where
  pub may_not : MayRestore s told → ⊥
  pub says : said ≡ answer.Illegal cause.Again
  pub same : after ≡ s

pub record WantsMemory (s : SessionView) (told : Again) (said : Answer) (after : SessionView) : Type 0 where
  pub may : MayRestore s told
  pub says : said ≡ answer.Memory
  pub same : after ≡ s

-- What comes of a line of a snapshot. It adds nothing to the history.
pub record Restores (s : SessionView) (told : Again) (said : Answer) (added : List Entry) (after : SessionView) : Type 0 where
  pub nothing : added ≡ []
  pub comes : IsRestored s told said after ⊎ (IsUnfit s told said after ⊎ WantsMemory s told said after)

-- ---- snapshots

-- The lines that restore a session which remembers these events: how much was told, where each role stands, the messages of what
-- is forgotten, the events, and the saves that were told.
abbrev pub extent_of : SessionView → Extent
extent_of s = record { told = s.guide.told; room = s.guide.room }

abbrev pub role_again : SessionView → ℕ → Again
role_again s r =
    let x = standing_of s.guide r in
    again.Role (record {
      role = r;
      kept = x.forgotten;
      raw = x.raw;
      place = x.place;
      clock = x.clock;
      attempt = x.attempt;
      down = x.down;
      incarnation = incarnation_of s r;
    })

abbrev pub flight_again : SessionView → Event → Again
flight_again s e =
    again.Flight (record {
      from = e.role;
      to = (net_for s.guide).receiver e.point;
      message = message_sent e;
    })

abbrev pub saves_again : SessionView → ℕ → List Again
saves_again s r = map (λ count. again.Save r count) (told_of s.saves r)

abbrev pub snapshot_of : SessionView → List Event → List Again
snapshot_of s events =
    again.Session (extent_of s) ∷ map (role_again s) (range_with_len 0 (roles_in s)) ++ map (flight_again s) (seeds_of s.guide)
    ++ map (λ e. again.Event e) events ++ flat_map (saves_again s) (range_with_len 0 (roles_in s))

-- These lines are a snapshot of the session.
pub record AreSnapshot (s : SessionView) (lines : List Again) : Type 0 where
  pub events : List Event
  pub remembered : AreRemembered s.guide events
  pub lines_are : lines ≡ snapshot_of s events

-- A session is told these lines, one after the other, and each is taken.
abbrev pub AreTaken : SessionView → List Again → SessionView → Type 0
AreTaken s [] last = last ≡ s
AreTaken s (told ∷ lines) last = MayRestore s told × AreTaken (restored_by s told) lines last
