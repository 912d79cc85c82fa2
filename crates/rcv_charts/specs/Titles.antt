-- What the groups of a picture are called, and which words stand in them.
use Rattle.std.specs.Prelude.{◌≡◌, ℕ, Bool, true, false, List, [], ◌∷◌, map}
use Rattle.std.specs.List.{filter}
use Rattle.rcv_picture.specs.declared.pixels.At.{At}
use Rattle.rcv_picture.specs.declared.shape.Shape.{Shape}
use Rattle.rcv_picture.specs.declared.shape.Shape.TheVariants.{Line, Rect, Circle, Path, Text}
use Rattle.rcv_picture.specs.declared.group.Group.{Group}
use Rattle.rcv_picture.specs.declared.picture.Picture.{Picture}

-- The title says something.
abbrev pub is_titled : List ℕ → Bool
is_titled [] = false
is_titled (b ∷ bs) = true

abbrev pub has_title : Group → Bool
has_title group = is_titled group.title.items

-- The groups that have a title, in order.
abbrev pub titled_in : List Group → List Group
titled_in groups = filter has_title groups

abbrev pub titled_of : Picture → List Group
titled_of picture = titled_in picture.groups.items

-- Their titles.
abbrev pub title_of : Group → List ℕ
title_of group = group.title.items

abbrev pub titles_in : List Group → List (List ℕ)
titles_in groups = map title_of groups

abbrev pub titles_of : Picture → List (List ℕ)
titles_of picture = titles_in (titled_of picture)

-- The words among these shapes, in order.
abbrev pub texts_in : List Shape → List (List ℕ)
texts_in [] = []
texts_in (Line from to look ∷ shapes) = texts_in shapes
texts_in (Rect corner width height round look ∷ shapes) = texts_in shapes
texts_in (Circle center radius look ∷ shapes) = texts_in shapes
texts_in (Path places look ∷ shapes) = texts_in shapes
texts_in (Text place anchor look text ∷ shapes) = text.items ∷ texts_in shapes

-- The shape goes along these places.
abbrev pub IsWay : List At → Shape → Type 0
IsWay way (Line from to look) = ⊥
IsWay way (Rect corner width height round look) = ⊥
IsWay way (Circle center radius look) = ⊥
IsWay way (Path places look) = places.items ≡ way
IsWay way (Text place anchor look text) = ⊥
