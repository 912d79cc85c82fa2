-- What contracts see of saves.
use Rattle.std.specs.Prelude.{◌≡◌, ℕ, ◌⊎◌, List, [], length, replicate, slice_index, slice_index_or, slice_set}
use Rattle.std.specs.List.{Contains}
use Rattle.rcv_saves.specs.Counts.{IsAscending, IsStepped, IsFrom, IsLast}

-- For each role its step, or 0 if it has none; and the counts that were told of it.
pub record SavesView : Type 0 where
  pub steps : List ℕ
  pub told : List (List ℕ)

abbrev pub saves_of : List ℕ → List (List ℕ) → SavesView
saves_of steps told = record { steps = steps; told = told }

-- Before anything is told.
abbrev pub opened : List ℕ → SavesView
opened steps = saves_of steps (replicate (length steps) [])

-- What was told of a role.
abbrev pub told_of : SavesView → ℕ → List ℕ
told_of saves r = slice_index_or saves.told r []

-- The saves if this was told of it.
abbrev pub with_told : SavesView → ℕ → List ℕ → SavesView
with_told saves r counts = record saves { told = slice_set saves.told r counts }

-- The role saves after this count: it was told, or its step divides it.
abbrev pub Saves : SavesView → ℕ → ℕ → Type 0
Saves saves r c = Contains (told_of saves r) c ⊎ IsStepped (slice_index saves.steps r) c

-- The role has saved its state after this count: it is the base, or one from there on after which it saves.
abbrev pub IsSaved : SavesView → ℕ → ℕ → ℕ → Type 0
IsSaved saves r = IsFrom (Saves saves r)

-- The greatest such count up to this one.
abbrev pub IsLastSaved : SavesView → ℕ → ℕ → ℕ → ℕ → Type 0
IsLastSaved saves r = IsLast (Saves saves r)

-- What is told of each role ascends.
pub record AreSaves (saves : SavesView) : Type 0 where
  pub all : length saves.told ≡ length saves.steps
  pub ascending : (r : ℕ) → IsAscending (told_of saves r)
