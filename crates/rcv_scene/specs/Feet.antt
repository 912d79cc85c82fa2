-- The feet of the columns: how each role ended.
use Rattle.std.specs.Prelude.{◌≡◌, ℕ, List, [], ◌∷◌, ◌++◌, codes, decimal}
use Rattle.rcv_picture.specs.declared.pixels.Pixels.{Pixels}
use Rattle.rcv_picture.specs.declared.pixels.At.{At}
use Rattle.rcv_picture.specs.declared.look.Look.{Look}
use Rattle.rcv_picture.specs.declared.look.Look.TheVariants as looks
use Rattle.rcv_picture.specs.declared.shape.Anchor.TheVariants.{Middle}
use Rattle.rcv_picture.specs.declared.group.Group.{Group}
use Rattle.rcv_scene.specs.declared.ends.End.{End}
use Rattle.rcv_scene.specs.declared.ends.End.TheVariants.{Done, Limit, Waits, Down}
use Rattle.rcv_scene.specs.declared.ends.RoleEnd.{RoleEnd}
use Rattle.rcv_scene.specs.Seen.{Seen, Frame, Words, seen, at, further}
use Rattle.rcv_scene.specs.Grid.{Grid, column}

-- The word for how a role ended, and how it looks.
abbrev pub end_word : End → List ℕ
end_word Done = codes "done"
end_word Limit = codes "limit"
end_word Waits = codes "waits"
end_word Down = codes "down"

abbrev pub end_look : End → Look
end_look Done = looks.Good
end_look Limit = looks.Failed
end_look Waits = looks.Failed
end_look Down = looks.Failed

-- `kept K of N`
abbrev pub kept_words : ℕ → ℕ → List ℕ
kept_words kept raw = codes "kept " ++ decimal kept ++ codes " of " ++ decimal raw

-- The two texts of a role's foot, in its column under this height.
abbrev pub foot_texts : Pixels → Pixels → End → List ℕ → List Seen
foot_texts x y end kept =
    Words (at x (further y 15)) Middle (end_look end) (end_word end)
    ∷ Words (at x (further y 29)) Middle looks.Note kept ∷ []

abbrev pub foot_words : Grid → Pixels → RoleEnd → List Seen
foot_words grid y role = foot_texts (column grid role.role) y role.end (kept_words role.kept role.raw)

-- Something more was drawn: a box, and the texts of a foot.
pub record AddsFoot (grid : Grid) (y : Pixels) (role : RoleEnd) (old new : List Seen) : Type 0 where
  pub corner : At
  pub width : Pixels
  pub height : Pixels
  pub round : Pixels
  pub is : new ≡ old ++ Frame corner width height round looks.Box ∷ foot_words grid y role

-- The feet of these roles, one after another.
pub data AreFeet (grid : Grid) (y : Pixels) : List RoleEnd → List Seen → Type 0 where
  NoFoot : AreFeet grid y [] []
  NextFoot : (ends more : List RoleEnd) (role : RoleEnd) (before all : List Seen) → AreFeet grid y ends before → more ≡ ends ++ role ∷ []
      → AddsFoot grid y role before all → AreFeet grid y more all

-- A group was added, in which this is drawn.
pub record AddsGroup (old new : List Group) (drawn : List Seen) : Type 0 where
  pub group : Group
  pub is : new ≡ old ++ group ∷ []
  pub shows : seen group.shapes.items ≡ drawn

-- One of the groups holds the feet of these roles.
pub record HasFeet (grid : Grid) (ends : List RoleEnd) (groups : List Group) : Type 0 where
  pub y : Pixels
  pub before : List Group
  pub after : List Group
  pub group : Group
  pub is : groups ≡ before ++ group ∷ after
  pub right : AreFeet grid y ends (seen group.shapes.items)
