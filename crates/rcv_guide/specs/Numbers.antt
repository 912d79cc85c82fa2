-- The numbers of each role, as they are held.
use Rattle.std.specs.Prelude.{◌≡◌, ℕ, ◌+◌, ◌<◌, max, Bool, true, false, ◌==◌, if◌then◌else◌, Option, Some, None, List, [], ◌∷◌, length, slice_get, slice_index, slice_index_or, slice_set}
use Rattle.rcv_tree.specs.Bits.{has_bit}
use Rattle.rcv_tree.specs.declared.event.Event.{Event}
use Rattle.rcv_model.specs.Journal.{numbers_at as counted_at}
use Rattle.rcv_ledger.specs.Logs.{log_at}
use Rattle.rcv_told.specs.Told.{Remembered}
use Rattle.rcv_guide.specs.declared.numbers.Numbers.{Numbers}

-- Before the first event.
abbrev pub at_start : Numbers
at_start = record { seeds = 0; forgotten = 0; point = 0; raw = 0; attempt = 0; clock = 0; down = false }

-- The numbers of a role; one that isn't declared has those before the first event.
abbrev pub numbers_at : List Numbers → ℕ → Numbers
numbers_at numbers r = slice_index_or numbers r at_start

-- Whether a role with these numbers is down; none if there are no numbers.
abbrev pub down_of : Option Numbers → Option Bool
down_of None = None
down_of (Some x) = Some x.down

-- The numbers of role r in a memory. How often it has crashed doesn't matter.
pub record AreNumbersOf (m : Remembered) (r : ℕ) (x : Numbers) : Type 0 where
  pub seeds : slice_get m.seeds r ≡ Some x.seeds
  pub forgotten : slice_get m.forgotten r ≡ Some x.forgotten
  pub point : slice_get m.points r ≡ Some x.point
  pub raw : (counted_at m.roles r).raw ≡ x.raw
  pub attempt : (counted_at m.roles r).attempt ≡ x.attempt
  pub clock : (counted_at m.roles r).clock ≡ x.clock
  pub down : (counted_at m.roles r).crashed ≡ x.down

-- Each list of a memory has an entry for each of so many roles.
pub record HaveAll (roles : ℕ) (m : Remembered) : Type 0 where
  pub seeds : length m.seeds ≡ roles
  pub forgotten : length m.forgotten ≡ roles
  pub points : length m.points ≡ roles
  pub numbers : length m.roles ≡ roles

-- The numbers of so many roles in a memory.
pub record AreNumbers (roles : ℕ) (m : Remembered) (numbers : List Numbers) : Type 0 where
  pub have : HaveAll roles m
  pub all : length numbers ≡ roles
  pub each : (r : ℕ) → r < roles → AreNumbersOf m r (numbers_at numbers r)

-- The numbers with one event more; with a role that is down; and with a role that has so many seeds.
abbrev pub with_advanced : List Numbers → Event → List Numbers
with_advanced numbers e =
    let x = numbers_at numbers e.role in
    slice_set numbers e.role (record x { raw = x.raw + 1; clock = e.stamp })

abbrev pub with_crash : List Numbers → ℕ → List Numbers
with_crash numbers p = slice_set numbers p (record (numbers_at numbers p) { down = true })

abbrev pub with_seeds : List Numbers → ℕ → ℕ → List Numbers
with_seeds numbers r seeds = slice_set numbers r (record (numbers_at numbers r) { seeds = seeds })

-- The greatest clock of the roles of a set, from role r on.
abbrev pub latest_from : ℕ → ℕ → List Numbers → ℕ
latest_from set r [] = 0
latest_from set r (x ∷ rest) = max (if has_bit set r then x.clock else 0) (latest_from set (r + 1) rest)

-- The numbers of role r after a recovery of this group, which leaves so many of its logged events.
abbrev pub back_from : List Numbers → ℕ → ℕ → ℕ → ℕ → ℕ → Numbers → Numbers
back_from numbers group concerned made left r x =
    record x {
      attempt = if left == made then x.attempt else x.attempt + 1;
      clock = if has_bit concerned r then latest_from concerned 0 numbers + 1 else x.clock;
      down = if has_bit group r then false else x.down;
    }

pub record AreBack (old new : List Numbers) (group concerned : ℕ) (logs : List (List Event)) (counts : List ℕ) : Type 0 where
  pub all : length new ≡ length old
  pub each : (r : ℕ) → r < length old
      → numbers_at new r ≡ back_from old group concerned (length (log_at logs r)) (slice_index counts r) r (numbers_at old r)
