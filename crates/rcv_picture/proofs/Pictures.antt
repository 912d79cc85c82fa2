-- The trees of pictures are proper, and name few elements and attributes.
use Rattle.std.proofs.Common.{◌≡◌, ℕ, List, [], ◌∷◌, ◌++◌, refl}
use Rattle.std.specs.Prelude.{Bool, true, map, codes}
use Rattle.rcv_picture.specs.declared.shape.Shape.{Shape}
use Rattle.rcv_picture.specs.declared.shape.Shape.TheVariants.{Line, Rect, Circle, Path, Text}
use Rattle.rcv_picture.specs.declared.group.Says.{Says}
use Rattle.rcv_picture.specs.declared.group.Says.TheVariants.{Nothing, Entry, Fold, Arrow}
use Rattle.rcv_picture.specs.declared.group.Group.{Group}
use Rattle.rcv_picture.specs.declared.picture.Picture.{Picture}
use Rattle.rcv_picture.specs.Tree.{Node, Element, nodes}
use Rattle.rcv_picture.specs.Drawn.{words_in, shape_node, tag_of, title_nodes, titles_of, group_node, arrow_heads, background, style, on_lines, root_attributes, view_box, arrow_head, head_shape, head_sizes, text_attributes, tree_of}
use Rattle.rcv_picture.specs.Laws.{is_proper, are_proper, has_only, have_only, drawn_elements, drawn_attributes, PicturesAreWellFormed, PicturesStandAlone}
use Rattle.rcv_picture.proofs.Spelling.{and_left, and_right, both, well_formed}

shape_proper : (shape : Shape) → is_proper (shape_node shape) ≡ true
unfolding text_attributes
shape_proper (Line from to look) = refl
shape_proper (Rect corner width height round look) = refl
shape_proper (Circle center radius look) = refl
shape_proper (Path places look) = refl
shape_proper (Text place anchor look text) = refl

shapes_proper : (shapes : List Shape) → are_proper (nodes (map shape_node shapes)) ≡ true
shapes_proper [] = refl
shapes_proper (s ∷ ss) = both (is_proper (shape_node s)) (are_proper (nodes (map shape_node ss))) (shape_proper s) (shapes_proper ss)

title_proper : (title : List ℕ) (ns : List Node) → are_proper (nodes ns) ≡ true → are_proper (nodes (title_nodes title ++ ns)) ≡ true
title_proper [] ns proper = proper
title_proper (c ∷ cs) ns proper = proper

tagged_proper : (says : Says) (title : List ℕ) (shapes : List Shape) → is_proper (Element (codes "g") (tag_of says) (nodes (titles_of says title ++ map shape_node shapes))) ≡ true
tagged_proper Nothing title shapes = title_proper title (map shape_node shapes) (shapes_proper shapes)
tagged_proper (Entry place undone) title shapes = title_proper title (map shape_node shapes) (shapes_proper shapes)
tagged_proper (Fold first end counts) title shapes = shapes_proper shapes
tagged_proper (Arrow send receive undone) title shapes = title_proper title (map shape_node shapes) (shapes_proper shapes)

groups_proper : (groups : List Group) → are_proper (nodes (map group_node groups)) ≡ true
groups_proper [] = refl
groups_proper (g ∷ gs) =
    both (is_proper (group_node g)) (are_proper (nodes (map group_node gs)))
    (tagged_proper g.says g.title.items g.shapes.items) (groups_proper gs)

lines_proper : (ns : List Node) → are_proper (nodes ns) ≡ true → are_proper (nodes (on_lines ns)) ≡ true
lines_proper [] proper = refl
lines_proper (n ∷ ns) proper =
    both (is_proper n) (are_proper (nodes (on_lines ns))) (and_left (is_proper n) (are_proper (nodes ns)) proper)
    (lines_proper ns (and_right (is_proper n) (are_proper (nodes ns)) proper))

-- what a picture has in it
abbrev parts : Picture → List Node
parts picture =
    words_in (codes "title") [] picture.title.items ∷ words_in (codes "desc") [] picture.description.items
    ∷ words_in (codes "style") [] style ∷ arrow_heads ∷ background picture.width.0 picture.height.0
    ∷ map group_node picture.groups.items

pictures_proper : (picture : Picture) → is_proper (tree_of picture) ≡ true
unfolding root_attributes view_box arrow_heads arrow_head head_shape head_sizes background
pictures_proper picture = lines_proper (parts picture) (groups_proper picture.groups.items)

pub pictures_well_formed : PicturesAreWellFormed
pictures_well_formed picture = (
  pictures_proper picture,
  well_formed (codes "svg") (root_attributes picture.width.0 picture.height.0) (nodes (on_lines (parts picture))) (pictures_proper picture),
)

-- only the names that a picture may have
abbrev only : Node → Bool
only node = has_only drawn_elements drawn_attributes node

abbrev all_only : List Node → Bool
all_only ns = have_only drawn_elements drawn_attributes (nodes ns)

shape_only : (shape : Shape) → only (shape_node shape) ≡ true
unfolding text_attributes
shape_only (Line from to look) = refl
shape_only (Rect corner width height round look) = refl
shape_only (Circle center radius look) = refl
shape_only (Path places look) = refl
shape_only (Text place anchor look text) = refl

shapes_only : (shapes : List Shape) → all_only (map shape_node shapes) ≡ true
shapes_only [] = refl
shapes_only (s ∷ ss) = both (only (shape_node s)) (all_only (map shape_node ss)) (shape_only s) (shapes_only ss)

title_only : (title : List ℕ) (ns : List Node) → all_only ns ≡ true → all_only (title_nodes title ++ ns) ≡ true
title_only [] ns named = named
title_only (c ∷ cs) ns named = named

tagged_only : (says : Says) (title : List ℕ) (shapes : List Shape) → only (Element (codes "g") (tag_of says) (nodes (titles_of says title ++ map shape_node shapes))) ≡ true
tagged_only Nothing title shapes = title_only title (map shape_node shapes) (shapes_only shapes)
tagged_only (Entry place undone) title shapes = title_only title (map shape_node shapes) (shapes_only shapes)
tagged_only (Fold first end counts) title shapes = shapes_only shapes
tagged_only (Arrow send receive undone) title shapes = title_only title (map shape_node shapes) (shapes_only shapes)

groups_only : (groups : List Group) → all_only (map group_node groups) ≡ true
groups_only [] = refl
groups_only (g ∷ gs) =
    both (only (group_node g)) (all_only (map group_node gs)) (tagged_only g.says g.title.items g.shapes.items) (groups_only gs)

lines_only : (ns : List Node) → all_only ns ≡ true → all_only (on_lines ns) ≡ true
lines_only [] named = refl
lines_only (n ∷ ns) named =
    both (only n) (all_only (on_lines ns)) (and_left (only n) (all_only ns) named) (lines_only ns (and_right (only n) (all_only ns) named))

pub stand_alone : PicturesStandAlone
unfolding root_attributes view_box arrow_heads arrow_head head_shape head_sizes background
stand_alone =
    record {
      names = λ picture. lines_only (parts picture) (groups_only picture.groups.items);
      no_script = refl;
      no_link = refl;
    }
