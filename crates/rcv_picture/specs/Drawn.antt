-- The tree of elements of each picture.
use Rattle.std.specs.Prelude.{ℕ, ◌+◌, Bool, List, [], ◌∷◌, ◌++◌, map, if◌then◌else◌, flat_map, codes, decimal}
use Rattle.rcv_picture.specs.declared.style.TheConstants.{STYLE}
use Rattle.rcv_picture.specs.declared.pixels.At.{At}
use Rattle.rcv_picture.specs.declared.look.Look.{Look}
use Rattle.rcv_picture.specs.declared.shape.Anchor.{Anchor}
use Rattle.rcv_picture.specs.declared.shape.Anchor.TheVariants.{Start, Middle, End}
use Rattle.rcv_picture.specs.declared.shape.Shape.{Shape}
use Rattle.rcv_picture.specs.declared.shape.Shape.TheVariants.{Line, Rect, Circle, Path, Text}
use Rattle.rcv_picture.specs.declared.group.Counts.{Counts}
use Rattle.rcv_picture.specs.declared.group.Says.{Says}
use Rattle.rcv_picture.specs.declared.group.Says.TheVariants.{Nothing, Entry, Fold, Arrow}
use Rattle.rcv_picture.specs.declared.group.Group.{Group}
use Rattle.rcv_picture.specs.declared.picture.Picture.{Picture}
use Rattle.rcv_picture.specs.Looks.{class_of}
use Rattle.rcv_picture.specs.Tree.{Attribute, Node, Words, Leaf, Element, nodes, spelled}

abbrev pub attribute : List ℕ → List ℕ → Attribute
attribute name value = record { name = name; value = value }

abbrev pub number : List ℕ → ℕ → Attribute
number name value = attribute name (decimal value)

abbrev pub class : Look → Attribute
class look = attribute (codes "class") (class_of look)

-- an element that holds only a text
abbrev pub words_in : List ℕ → List Attribute → List ℕ → Node
words_in name attributes words = Element name attributes (nodes (Words words ∷ []))

-- Which part of a text stands at its place, in SVG's words.
abbrev pub anchor_word : Anchor → List ℕ
anchor_word Start = codes "start"
anchor_word Middle = codes "middle"
anchor_word End = codes "end"

-- ` x y`
abbrev pub place_text : At → List ℕ
place_text at = codes " " ++ decimal at.x.0 ++ codes " " ++ decimal at.y.0

-- `M x y x y`: a way that begins at the first place and goes straight to each next one.
abbrev pub way : List At → List ℕ
way places = codes "M" ++ flat_map place_text places

-- straight lines from place to place
abbrev pub path_node : List At → Look → Node
path_node places look = Leaf (codes "path") (class look ∷ attribute (codes "d") (way places) ∷ [])

-- words in one line
unfoldable pub text_attributes : At → Anchor → Look → List Attribute
text_attributes place anchor look =
    class look ∷ number (codes "x") place.x.0 ∷ number (codes "y") place.y.0
    ∷ attribute (codes "text-anchor") (anchor_word anchor) ∷ []

abbrev pub text_node : At → Anchor → Look → List ℕ → Node
text_node place anchor look words = words_in (codes "text") (text_attributes place anchor look) words

abbrev pub shape_node : Shape → Node
shape_node (Line from to look) =
    Leaf (codes "line")
    (class look ∷ number (codes "x1") from.x.0 ∷ number (codes "y1") from.y.0
    ∷ number (codes "x2") to.x.0 ∷ number (codes "y2") to.y.0 ∷ [])
shape_node (Rect corner width height round look) =
    Leaf (codes "rect")
    (class look ∷ number (codes "x") corner.x.0 ∷ number (codes "y") corner.y.0
    ∷ number (codes "width") width.0 ∷ number (codes "height") height.0 ∷ number (codes "rx") round.0 ∷ [])
shape_node (Circle center radius look) =
    Leaf (codes "circle")
    (class look ∷ number (codes "cx") center.x.0 ∷ number (codes "cy") center.y.0 ∷ number (codes "r") radius.0 ∷ [])
shape_node (Path places look) = path_node places.items look
shape_node (Text place anchor look text) = text_node place anchor look text.items

-- how it is spelled
unfoldable pub shape_text : Shape → List ℕ
shape_text shape = spelled (shape_node shape)

-- `mark`, or `mark undone`
abbrev pub class_if_undone : List ℕ → Bool → Attribute
class_if_undone word undone = attribute (codes "class") (if undone then word ++ codes " undone" else word)

-- What a group says, in its tag. It counts entries from 1.
abbrev pub tag_of : Says → List Attribute
tag_of Nothing = []
tag_of (Entry place undone) =
    class_if_undone (codes "mark") undone ∷ attribute (codes "id") (codes "e" ++ decimal (place + 1)) ∷ []
tag_of (Fold first end counts) =
    attribute (codes "class") (codes "fold")
    ∷ attribute (codes "id") (codes "f" ++ decimal (first + 1) ++ codes "-" ++ decimal end) ∷ []
tag_of (Arrow send receive undone) =
    class_if_undone (codes "arrow") undone
    ∷ attribute (codes "id") (codes "e" ++ decimal (send + 1) ++ codes "-e" ++ decimal (receive + 1)) ∷ []

-- `entries A to B: S sent, R received, C crashes, V recoveries; U undone`, in four pieces
unfoldable pub run_words : ℕ → ℕ → List ℕ
run_words first end = codes "entries " ++ decimal (first + 1) ++ codes " to " ++ decimal end ++ codes ": "

unfoldable pub event_words : Counts → List ℕ
event_words counts = decimal counts.sends ++ codes " sent, " ++ decimal counts.receives ++ codes " received, "

unfoldable pub crash_words : Counts → List ℕ
crash_words counts = decimal counts.crashes ++ codes " crashes, " ++ decimal counts.recoveries ++ codes " recoveries; "

unfoldable pub undone_words : Counts → List ℕ
undone_words counts = decimal counts.undone ++ codes " undone"

unfoldable pub fold_words : ℕ → ℕ → Counts → List ℕ
fold_words first end counts = run_words first end ++ event_words counts ++ crash_words counts ++ undone_words counts

-- no title if there are no words for it
abbrev pub title_nodes : List ℕ → List Node
title_nodes [] = []
title_nodes (c ∷ cs) = words_in (codes "title") [] (c ∷ cs) ∷ []

-- A fold's title is made of its numbers; another group's is the one that it has.
abbrev pub titles_of : Says → List ℕ → List Node
titles_of Nothing title = title_nodes title
titles_of (Entry place undone) title = title_nodes title
titles_of (Fold first end counts) title = words_in (codes "title") [] (fold_words first end counts) ∷ []
titles_of (Arrow send receive undone) title = title_nodes title

abbrev pub tagged : Says → List ℕ → List Shape → Node
tagged says title shapes = Element (codes "g") (tag_of says) (nodes (titles_of says title ++ map shape_node shapes))

abbrev pub group_node : Group → Node
group_node group = tagged group.says group.title.items group.shapes.items

-- a line feed, and how it is spelled
unfoldable pub group_line : Group → List ℕ
group_line group = codes "\n" ++ spelled (group_node group)

-- how large each head of an arrow is, and that it points in the direction of its line
unfoldable pub head_sizes : List Attribute
head_sizes =
    attribute (codes "viewBox") (codes "0 0 14 14")
    ∷ attribute (codes "refX") (codes "13") ∷ attribute (codes "refY") (codes "7")
    ∷ attribute (codes "markerWidth") (codes "7") ∷ attribute (codes "markerHeight") (codes "7")
    ∷ attribute (codes "markerUnits") (codes "userSpaceOnUse") ∷ attribute (codes "orient") (codes "auto") ∷ []

-- its shape
unfoldable pub head_shape : List ℕ → Node
head_shape class =
    Leaf (codes "path") (attribute (codes "class") class ∷ attribute (codes "d") (codes "M 0 0 L 14 7 L 0 14 Z") ∷ [])

-- The head of an arrow, by its name and the class of its shape.
unfoldable pub arrow_head : List ℕ → List ℕ → Node
arrow_head name class =
    Element (codes "marker") (attribute (codes "id") name ∷ head_sizes) (nodes (head_shape class ∷ []))

unfoldable pub arrow_heads : Node
arrow_heads =
    Element (codes "defs") []
    (nodes (arrow_head (codes "tip") (codes "tip") ∷ arrow_head (codes "tip-undone") (codes "tip undone-tip")
    ∷ arrow_head (codes "tip-again") (codes "tip again-tip")
    ∷ arrow_head (codes "tip-back") (codes "tip back-tip") ∷ []))

-- what lies behind all
unfoldable pub background : ℕ → ℕ → Node
background width height =
    Leaf (codes "rect")
    (attribute (codes "class") (codes "background")
    ∷ number (codes "width") width ∷ number (codes "height") height ∷ [])

-- each after a line feed, and a line feed at the end
abbrev pub on_lines : List Node → List Node
on_lines [] = Words (codes "\n") ∷ []
on_lines (n ∷ ns) = Words (codes "\n") ∷ n ∷ on_lines ns

-- the style sheet, which is the same for each picture
unfoldable pub style : List ℕ
style = STYLE.now

-- the part of the plane that is seen: all of the picture
unfoldable pub view_box : ℕ → ℕ → Attribute
view_box width height = attribute (codes "viewBox") (codes "0 0 " ++ decimal width ++ codes " " ++ decimal height)

unfoldable pub root_attributes : ℕ → ℕ → List Attribute
root_attributes width height =
    attribute (codes "xmlns") (codes "http://www.w3.org/2000/svg")
    ∷ number (codes "width") width ∷ number (codes "height") height ∷ view_box width height
    ∷ attribute (codes "role") (codes "img") ∷ []

abbrev pub drawn : ℕ → ℕ → List ℕ → List ℕ → List Group → Node
drawn width height title description groups =
    Element (codes "svg") (root_attributes width height)
    (nodes (on_lines (words_in (codes "title") [] title ∷ words_in (codes "desc") [] description
    ∷ words_in (codes "style") [] style ∷ arrow_heads ∷ background width height ∷ map group_node groups)))

abbrev pub tree_of : Picture → Node
tree_of picture =
    drawn picture.width.0 picture.height.0 picture.title.items picture.description.items picture.groups.items
