-- Ascending counts, and the last of them.
use Rattle.std.specs.Prelude.{◌≡◌, ℕ, ◌*◌, ◌<◌, ◌≤◌, ◌⊎◌, nat_lt, nat_le, List, ◌∷◌, ◌++◌, length, slice_index}
use Rattle.std.specs.List.{filter, Contains}

-- Each is below those after it.
abbrev pub IsAscending : List ℕ → Type 0
IsAscending counts = (i j : ℕ) → i < j → j < length counts → slice_index counts i < slice_index counts j

-- The counts below this one, up to it, and above it.
abbrev pub below : ℕ → List ℕ → List ℕ
below c counts = filter (λ x. nat_lt x c) counts

abbrev pub up_to : ℕ → List ℕ → List ℕ
up_to c counts = filter (λ x. nat_le x c) counts

abbrev pub above : ℕ → List ℕ → List ℕ
above c counts = filter (λ x. nat_lt c x) counts

-- The counts with this one, once.
abbrev pub with_count : ℕ → List ℕ → List ℕ
with_count c counts = below c counts ++ c ∷ above c counts

-- The first so many counts are at most this one, and those after them are above it.
pub record IsSplit (counts : List ℕ) (c many : ℕ) : Type 0 where
  pub within : many ≤ length counts
  pub low : (i : ℕ) → i < many → slice_index counts i ≤ c
  pub high : (i : ℕ) → many ≤ i → i < length counts → c < slice_index counts i

-- A step that isn't 0 divides it.
abbrev pub IsStepped : ℕ → ℕ → Type 0
IsStepped step c = (0 < step) × ((k : ℕ) × (k * step ≡ c))

-- The base, or one from there on for which this holds.
abbrev pub IsFrom : (ℕ → Type 0) → ℕ → ℕ → Type 0
IsFrom P base c = (c ≡ base) ⊎ ((base ≤ c) × P c)

-- The greatest of them up to this count.
pub record IsLast (P : ℕ → Type 0) (base count c : ℕ) : Type 0 where
  pub is : IsFrom P base c
  pub within : c ≤ count
  pub greatest : (other : ℕ) → IsFrom P base other → other ≤ count → other ≤ c

-- The greatest of these counts; and of the multiples of a step.
abbrev pub IsLastTold : List ℕ → ℕ → ℕ → ℕ → Type 0
IsLastTold counts = IsLast (Contains counts)

abbrev pub IsLastStepped : ℕ → ℕ → ℕ → ℕ → Type 0
IsLastStepped step = IsLast (IsStepped step)
