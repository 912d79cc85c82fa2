-- What contracts see of a drawing, and how it grows.
use Rattle.std.specs.Prelude.{ℕ, ◌+◌, min, List, ◌++◌}
use Rattle.rcv_picture.specs.declared.group.Group.{Group}

-- The groups that have a title, and how far down it goes.
pub record DrawingView : Type 0 where
  pub groups : List Group
  pub down : ℕ

-- So far down, and so far again; it stops at the greatest number of pixels.
abbrev pub further : ℕ → ℕ → ℕ
further down more = min (down + more) 4294967295

-- The drawing with one group more, and with more of them.
abbrev pub with_groups : DrawingView → List Group → DrawingView
with_groups drawing more = record { groups = drawing.groups ++ more; down = drawing.down }
