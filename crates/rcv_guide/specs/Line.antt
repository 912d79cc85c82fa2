-- The stable line of a session: how many events of each role no failure takes back.
use Rattle.std.specs.Prelude.{◌≡◌, ℕ, ◌+◌, ◌-◌, ◌^◌, ◌<◌, ◌≤◌, List, [], length, take, slice_index}
use Rattle.rcv_tree.specs.declared.event.Event.{Event}
use Rattle.rcv_model.specs.Net.{Net}
use Rattle.rcv_model.specs.Run.{put, taken}
use Rattle.rcv_ledger.specs.Logs.{log_at}
use Rattle.rcv_saves.specs.Counts.{above}
use Rattle.rcv_saves.specs.Saves.{SavesView, told_of, IsSaved}
use Rattle.rcv_guide.specs.declared.numbers.Numbers.{Numbers}
use Rattle.rcv_guide.specs.Numbers.{numbers_at}
use Rattle.rcv_guide.specs.Guide.{GuideView, roles_of, HasMemory, MayForget, HasForgotten}

-- The role has saved its state after what is forgotten of it and so many events more.
abbrev pub IsSavedBehind : List Numbers → SavesView → ℕ → ℕ → Type 0
IsSavedBehind numbers saves r count = IsSaved saves r (numbers_at numbers r).forgotten ((numbers_at numbers r).forgotten + count)

-- Each role has saved its state after its count of events.
abbrev pub AreSaved : GuideView → SavesView → List ℕ → Type 0
AreSaved g saves counts = (r : ℕ) → r < roles_of g → IsSavedBehind g.numbers saves r (slice_index counts r)

-- The counts can be forgotten, and each role has saved its state after its count: no failure takes back what is within.
pub record AreStable (g : GuideView) (saves : SavesView) (counts : List ℕ) : Type 0 where
  pub forget : MayForget g counts
  pub saved : AreSaved g saves counts

-- The greatest such counts; 0 for a role that isn't declared.
pub record IsLine (g : GuideView) (saves : SavesView) (counts : List ℕ) : Type 0 where
  pub stable : AreStable g saves counts
  pub greatest : (other : List ℕ) → AreStable g saves other → (r : ℕ) → r < roles_of g → slice_index other r ≤ slice_index counts r
  pub others : (r : ℕ) → roles_of g ≤ r → slice_index counts r ≡ 0

-- The saves lack what was told of each role up to what the session has forgotten of it.
pub record HaveForgotten (g : GuideView) (old new : SavesView) : Type 0 where
  pub steps : new.steps ≡ old.steps
  pub told : (r : ℕ) → r < roles_of g → told_of new r ≡ above (numbers_at g.numbers r).forgotten (told_of old r)

-- Forgetting moves no line: if a session forgets what is stable, each role's line among all its events is where it was. So what
-- a failure may not take back doesn't depend on when something was forgotten.
abbrev pub ForgettingMovesNoLine : Type 0
ForgettingMovesNoLine =
    (old new : GuideView) (saves left : SavesView) (counts line later : List ℕ) (room : ℕ)
    → HasMemory old → AreStable old saves counts → HasForgotten old new counts room → HaveForgotten new saves left
    → IsLine old saves line → IsLine new left later
    → (r : ℕ) → (numbers_at new.numbers r).forgotten + slice_index later r ≡ (numbers_at old.numbers r).forgotten + slice_index line r

-- The same for what a guide holds: logs, which begin with the seeds, and numbers.
abbrev pub reach : List Numbers → List ℕ → ℕ → ℕ
reach numbers counts r = (numbers_at numbers r).seeds + slice_index counts r

pub record AreStableIn (net : Net) (logs : List (List Event)) (numbers : List Numbers) (saves : SavesView) (counts : List ℕ) : Type 0 where
  pub eight : length counts ≡ 8
  pub held : (r : ℕ) → r < length logs → reach numbers counts r ≤ length (log_at logs r)
  pub closed : (a b : ℕ) → a < length logs → b < length logs
      → length (taken net a b (take (reach numbers counts b) (log_at logs b)))
      ≤ length (put net a b (take (reach numbers counts a) (log_at logs a)))
  pub saved : (r : ℕ) → r < length logs → IsSavedBehind numbers saves r (slice_index counts r)

pub record IsLineIn (net : Net) (logs : List (List Event)) (numbers : List Numbers) (saves : SavesView) (counts : List ℕ) : Type 0 where
  pub stable : AreStableIn net logs numbers saves counts
  pub greatest : (other : List ℕ) → AreStableIn net logs numbers saves other → (r : ℕ) → r < length logs
      → slice_index other r ≤ slice_index counts r
  pub others : (r : ℕ) → length logs ≤ r → slice_index counts r ≡ 0

-- Each role with a log has numbers: its seeds are its first events, nothing is received among them, and all its events can
-- be counted in 64 bits.
pub record AreNumbered (net : Net) (logs : List (List Event)) (numbers : List Numbers) : Type 0 where
  pub all : length numbers ≡ length logs
  pub seeds : (r : ℕ) → r < length logs → (numbers_at numbers r).seeds ≤ length (log_at logs r)
  pub none : (a b : ℕ) → taken net a b (take (numbers_at numbers b).seeds (log_at logs b)) ≡ []
  pub few : (r : ℕ) → r < length logs → (numbers_at numbers r).forgotten + length (log_at logs r) < 2 ^ 64

-- Counts of logged events, the seeds among them, that can be counted in 64 bits.
pub record ReachSeeds (numbers : List Numbers) (counts : List ℕ) : Type 0 where
  pub seeds : (r : ℕ) → r < length numbers → (numbers_at numbers r).seeds ≤ slice_index counts r
  pub few : (r : ℕ) → r < length numbers → (numbers_at numbers r).forgotten + slice_index counts r < 2 ^ 64

-- They are at least what is within each stable line.
abbrev pub AreAboveLines : Net → List (List Event) → List Numbers → SavesView → List ℕ → Type 0
AreAboveLines net logs numbers saves counts =
    (other : List ℕ) → AreStableIn net logs numbers saves other → (r : ℕ) → r < length logs → reach numbers other r ≤ slice_index counts r

-- A role with these numbers has saved its state after so many of its logged events: the greatest such count up to this one.
pub record IsLastCount (x : Numbers) (saves : SavesView) (r count last : ℕ) : Type 0 where
  pub seeds : x.seeds ≤ last
  pub within : last ≤ count
  pub saved : IsSaved saves r x.forgotten (x.forgotten + (last - x.seeds))
  pub greatest : (more : ℕ) → IsSaved saves r x.forgotten (x.forgotten + more) → x.seeds + more ≤ count → x.seeds + more ≤ last

-- Each role has saved its state at its count of logged events.
abbrev pub AreSavedCounts : List Numbers → SavesView → List ℕ → Type 0
AreSavedCounts numbers saves counts =
    (r : ℕ) → r < length numbers → IsSavedBehind numbers saves r (slice_index counts r - (numbers_at numbers r).seeds)

-- This role hasn't. It goes back to this count.
pub record GoesBackTo (numbers : List Numbers) (saves : SavesView) (counts : List ℕ) (r count : ℕ) : Type 0 where
  pub role : r < length numbers
  pub less : count < slice_index counts r
  pub last : IsLastCount (numbers_at numbers r) saves r (slice_index counts r) count

-- The counts without the seeds; 0 for a role without numbers.
pub record AreBehindSeeds (numbers : List Numbers) (counts behind : List ℕ) : Type 0 where
  pub eight : length behind ≡ 8
  pub each : (r : ℕ) → r < length numbers → slice_index behind r ≡ slice_index counts r - (numbers_at numbers r).seeds
  pub others : (r : ℕ) → length numbers ≤ r → slice_index behind r ≡ 0
