-- How long the text of a picture is at most: so much for each shape, each place of a path and each group, and six times
-- the bytes of all titles and texts.
use Rattle.std.specs.Prelude.{ℕ, ◌+◌, ◌*◌, ◌≤◌, List, [], ◌∷◌, length}
use Rattle.rcv_picture.specs.declared.shape.Shape.{Shape}
use Rattle.rcv_picture.specs.declared.shape.Shape.TheVariants.{Line, Rect, Circle, Path, Text}
use Rattle.rcv_picture.specs.declared.group.Group.{Group}
use Rattle.rcv_picture.specs.declared.picture.Picture.{Picture}
use Rattle.rcv_picture.specs.Tree.{spelled}
use Rattle.rcv_picture.specs.Drawn.{tree_of}

-- A number has at most 64 digits by its definition, and so none needs a bound.
abbrev pub shape_room : Shape → ℕ
shape_room (Line from to look) = 3000
shape_room (Rect corner width height round look) = 3000
shape_room (Circle center radius look) = 3000
shape_room (Path places look) = 3000 + 800 * length places.items
shape_room (Text place anchor look text) = 3000 + 6 * length text.items

abbrev pub shapes_room : List Shape → ℕ
shapes_room [] = 0
shapes_room (s ∷ ss) = shape_room s + shapes_room ss

abbrev pub group_room : Group → ℕ
group_room group = 5000 + 6 * length group.title.items + shapes_room group.shapes.items

abbrev pub groups_room : List Group → ℕ
groups_room [] = 0
groups_room (g ∷ gs) = group_room g + groups_room gs

abbrev pub picture_room : Picture → ℕ
picture_room picture =
    30000 + 6 * length picture.title.items + 6 * length picture.description.items + groups_room picture.groups.items

abbrev pub PicturesAreShort : Type 0
PicturesAreShort = (picture : Picture) → length (spelled (tree_of picture)) ≤ picture_room picture
