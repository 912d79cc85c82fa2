-- What fields say of roles, which they name.
use Rattle.std.specs.Prelude.{◌≡◌, ◌<◌, ◌^◌, ℕ, if◌then◌else◌, List, [], ◌∷◌, ◌++◌, flat_map, length, slice_index, decimal, Option, Some, None}
use Rattle.std.specs.List.{All, range_with_len}
use Rattle.rcv_tree.specs.Bits.{has_bit}
use Rattle.rcv_tree.specs.Names.{name_at}
use Rattle.rcv_journal.specs.Form.{AreCuts}

-- Roles that have names.
abbrev pub HaveNames : List (List ℕ) → List ℕ → Type 0
HaveNames names roles = All (λ r. r < length names) roles

-- What a recovery says of one role: its name and its kept count, or nothing.
abbrev pub cut_fields : List ℕ → Option ℕ → List (List ℕ)
cut_fields name None = []
cut_fields name (Some kept) = name ∷ decimal kept ∷ []

abbrev pub FitsCut : Option ℕ → Type 0
FitsCut None = Unit {0}
FitsCut (Some kept) = kept < 2 ^ 32

-- The fields begin otherwise.
abbrev pub BeginOtherwise : List ℕ → List (List ℕ) → Type 0
BeginOtherwise name [] = Unit {0}
BeginOtherwise name (field ∷ fields) = field ≡ name → ⊥

-- If the fields first say a cut of the role with this name, these are the fields after it; and: they say no such cut.
abbrev pub OnlyLeaves : List ℕ → List (List ℕ) → List (List ℕ) → Type 0
OnlyLeaves name fields left =
    (kept : Option ℕ) (rest : List (List ℕ)) → FitsCut kept → BeginOtherwise name rest → fields ≡ cut_fields name kept ++ rest → left ≡ rest

abbrev pub SayNoCut : List ℕ → List (List ℕ) → Type 0
SayNoCut name fields =
    (kept : Option ℕ) (rest : List (List ℕ)) → FitsCut kept → BeginOtherwise name rest → fields ≡ cut_fields name kept ++ rest → ⊥

-- What the recovery says of role q, if it names these roles with these counts.
abbrev pub cut_at : ℕ → List ℕ → ℕ → Option ℕ
cut_at concerned kept q = if has_bit concerned q then Some (slice_index kept q) else None

abbrev pub kept_fields : List (List ℕ) → ℕ → List ℕ → ℕ → List (List ℕ)
kept_fields names concerned kept q = cut_fields (name_at names q) (cut_at concerned kept q)

-- What it says of the first roles, so many of them.
abbrev pub cuts_fields : List (List ℕ) → ℕ → List ℕ → ℕ → List (List ℕ)
cuts_fields names concerned kept count = flat_map (kept_fields names concerned kept) (range_with_len 0 count)

-- The fields say no cuts of these roles.
abbrev pub SayNoCuts : List (List ℕ) → List (List ℕ) → Type 0
SayNoCuts names fields =
    (concerned : ℕ) (kept : List ℕ) → AreCuts (length names) concerned kept → fields ≡ cuts_fields names concerned kept (length names) → ⊥
