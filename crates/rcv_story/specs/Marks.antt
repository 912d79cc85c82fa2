-- Marks of places that are shown.
use Rattle.std.specs.Prelude.{◌≡◌, ◌⊎◌, ◌↔◌, ℕ, ◌+◌, ◌<◌, ◌≤◌, Bool, true, List, length, Some, slice_get}
use Rattle.rcv_story.specs.Shown.{least_fold}

-- The place is marked.
abbrev pub IsMarked : List Bool → ℕ → Type 0
IsMarked marks p = slice_get marks p ≡ Some true

-- Those of some places are added, as far as they lie within.
pub record AddsMarks (P : ℕ → Type 0) (old new : List Bool) : Type 0 where
  pub size : length new ≡ length old
  pub each : (p : ℕ) → IsMarked new p ↔ (IsMarked old p ⊎ ((p < length old) × P p))

-- The places from the first one up to before the end.
pub record IsFromTo (from end p : ℕ) : Type 0 where
  pub low : from ≤ p
  pub high : p < end

-- One of these is marked.
abbrev pub HasMarked : List Bool → ℕ → ℕ → Type 0
HasMarked marks from end = (p : ℕ) × IsFromTo from end p × IsMarked marks p

-- The place is in a run of fewer than `least_fold` places between two marked ones.
pub record IsBridged (marks : List Bool) (p : ℕ) : Type 0 where
  pub lower : ℕ
  pub upper : ℕ
  pub lower_marked : IsMarked marks lower
  pub upper_marked : IsMarked marks upper
  pub above : lower < p
  pub below : p < upper
  pub few : upper ≤ lower + least_fold
