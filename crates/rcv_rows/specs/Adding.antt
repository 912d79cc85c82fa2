-- What is added to rows.
use Rattle.std.specs.Prelude.{◌≡◌, ◌⊎◌, ℕ, ◌<◌, Bool, List, [], ◌∷◌, ◌++◌, true, ◌↔◌}
use Rattle.rcv_tree.specs.declared.event.Event.{Event}
use Rattle.rcv_tree.specs.declared.entry.Entry.{Entry}
use Rattle.rcv_picture.specs.declared.group.Counts.{Counts}
use Rattle.rcv_picture.specs.declared.group.Says.{Says}
use Rattle.rcv_picture.specs.declared.group.Says.TheVariants as says
use Rattle.rcv_fates.specs.Fates.{IsUndoneAt}
use Rattle.rcv_rows.specs.Told.{IsRight}

-- The row of the entry at this place.
pub record IsRowOf (kept : List Event) (entries : List Entry) (place : ℕ) (row : Says) : Type 0 where
  pub undone : Bool
  pub is : row ≡ says.Entry place undone
  pub right : IsRight kept entries row

-- The fold of the entries from the first up to before the end.
pub record IsFoldOf (kept : List Event) (entries : List Entry) (first end : ℕ) (row : Says) : Type 0 where
  pub counts : Counts
  pub is : row ≡ says.Fold first end counts
  pub right : IsRight kept entries row

-- It is added if there are some; else nothing is.
abbrev pub IsFolded : List Event → List Entry → ℕ → ℕ → List Says → List Says → Type 0
IsFolded kept entries first end old new =
    ((first ≡ end) × (new ≡ old))
    ⊎ ((first < end) × (row : Says) × IsFoldOf kept entries first end row × (new ≡ old ++ row ∷ []))

-- The arrow from one place to another.
pub record IsWireOf (kept : List Event) (entries : List Entry) (s t : ℕ) (wire : Says) : Type 0 where
  pub undone : Bool
  pub is : wire ≡ says.Arrow s t undone
  pub right : (undone ≡ true) ↔ IsUndoneAt kept entries t
