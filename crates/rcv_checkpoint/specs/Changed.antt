-- What it means that an event changed nothing, one variable, or any.
use Rattle.std.specs.Prelude.{◌≡◌, ℕ, ℤ, ◌<◌, List, slice_set}
use Rattle.rcv_checkpoint.specs.declared.changed.Changed.{Changed}
use Rattle.rcv_checkpoint.specs.declared.changed.Changed.TheVariants.{Nothing, One, Any}

-- The variables are the same, except for some value at this place.
pub record IsOneChange (place : ℕ) (from to : List ℤ) : Type 0 where
  pub within : place < 16
  pub value : ℤ
  pub there : to ≡ slice_set from place value

-- The first variables became the other ones by such a change.
abbrev pub IsChange : Changed → List ℤ → List ℤ → Type 0
IsChange Nothing from to = to ≡ from
IsChange (One place) from to = IsOneChange place from to
IsChange Any from to = Unit {0}
