-- Which entries of a journal are shown; the others are folded. Places count from 0.
use Rattle.std.specs.Prelude.{◌≡◌, ◌⊎◌, ◌↔◌, ℕ, ◌+◌, ◌<◌, ◌≤◌, Bool, true, None, Some, List, length, slice_get, slice_index_or}
use Rattle.rcv_story.specs.declared.story.Recovery.{Recovery}

-- A journal of at most so many entries is shown whole.
abbrev pub whole : ℕ
whole = 160

-- So many entries are shown at the beginning, and so many at the end.
abbrev pub ends : ℕ
ends = 8

-- What is near the recoveries is shown: near all, if there are at most so many; else near so many first and so many last ones.
abbrev pub most_told : ℕ
most_told = 6

abbrev pub first_told : ℕ
first_told = 4

abbrev pub last_told : ℕ
last_told = 2

-- So many entries are shown after such a Recover and before its Crash; so many before the Recover and after the Crash; and so
-- many on both sides of each role's first lost event.
abbrev pub far : ℕ
far = 6

abbrev pub near : ℕ
near = 2

abbrev pub beside : ℕ
beside = 1

-- A run of fewer entries between shown ones is shown too.
abbrev pub least_fold : ℕ
least_fold = 5

-- Place p is at most so many places before place x, and at most so many after it.
pub record IsAround (x before after p : ℕ) : Type 0 where
  pub low : x ≤ p + before
  pub high : p ≤ x + after

-- Place p is near a recovery: near its Recover, its Crash, or a role's first lost event.
abbrev pub IsNear : Recovery → ℕ → Type 0
IsNear x p =
    IsAround x.place near far p
    ⊎ (((c : ℕ) × (x.crash ≡ Some c) × IsAround c far near p)
    ⊎ ((r : ℕ) × (r < 8) × (f : ℕ) × (slice_index_or x.firsts r None ≡ Some f) × IsAround f beside beside p))

-- What is near the recovery with number i, of so many, is shown.
abbrev pub IsToldOf : ℕ → ℕ → Type 0
IsToldOf count i = (count ≤ most_told) ⊎ ((i < first_told) ⊎ (count ≤ i + last_told))

-- Place p of so many is at the beginning, at the end, or near such a recovery.
pub record IsNearTold (xs : List Recovery) (p : ℕ) : Type 0 where
  pub number : ℕ
  pub recovery : Recovery
  pub there : slice_get xs number ≡ Some recovery
  pub told : IsToldOf (length xs) number
  pub is_near : IsNear recovery p

abbrev pub IsPicked : ℕ → List Recovery → ℕ → Type 0
IsPicked count xs p = (p < count) × ((p < ends) ⊎ ((count ≤ p + ends) ⊎ IsNearTold xs p))

-- A mark for each of so many: whether it is such a place.
pub record ArePicked (count : ℕ) (xs : List Recovery) (picked : List Bool) : Type 0 where
  pub size : length picked ≡ count
  pub each : (p : ℕ) → (slice_get picked p ≡ Some true) ↔ IsPicked count xs p

-- Place p is in a run of fewer than `least_fold` entries between two such ones.
pub record IsBetween (count : ℕ) (xs : List Recovery) (p : ℕ) : Type 0 where
  pub lower : ℕ
  pub upper : ℕ
  pub lower_picked : IsPicked count xs lower
  pub upper_picked : IsPicked count xs upper
  pub above : lower < p
  pub below : p < upper
  pub few : upper ≤ lower + least_fold

-- So the entry at place p is shown.
abbrev pub IsShownAt : ℕ → List Recovery → ℕ → Type 0
IsShownAt count xs p = (count ≤ whole) ⊎ (IsPicked count xs p ⊎ IsBetween count xs p)

-- A mark for each entry: whether it is shown.
pub record AreShown (count : ℕ) (xs : List Recovery) (shown : List Bool) : Type 0 where
  pub size : length shown ≡ count
  pub each : (p : ℕ) → p < count → (slice_get shown p ≡ Some true) ↔ IsShownAt count xs p
