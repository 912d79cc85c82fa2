-- No node is longer than what its names, values and words allow, and so no picture.
use Rattle.std.proofs.Common.{◌≡◌, inl, inr, ℕ, zero, suc, ◌+◌, ◌*◌, ◌/◌, ◌%◌, ◌≤◌, List, [], ◌∷◌, ◌++◌, length, ap, arith}
use Rattle.std.specs.Prelude.{Bool, true, false, if◌then◌else◌, ◌==◌, flat_map, map, codes, decimal}
use Rattle.std.specs.Fmt.{digits, digits_onto, digit_glyph}
use Rattle.std.proofs.lemmas.List.{length-append}
use Rattle.rcv_picture.specs.declared.pixels.At.{At}
use Rattle.rcv_picture.specs.declared.look.Look.{Look}
use Rattle.rcv_picture.specs.declared.look.Look.TheVariants as looks
use Rattle.rcv_picture.specs.declared.shape.Anchor.{Anchor}
use Rattle.rcv_picture.specs.declared.shape.Anchor.TheVariants as anchors
use Rattle.rcv_picture.specs.declared.shape.Shape.{Shape}
use Rattle.rcv_picture.specs.declared.shape.Shape.TheVariants.{Line, Rect, Circle, Path, Text}
use Rattle.rcv_picture.specs.Looks.{class_of}
use Rattle.rcv_picture.specs.Tree.{Attribute, Node, Words, Leaf, Element, Nodes, NoNodes, Beside, escape, escaped, attribute_text, attributes_text, spelled, all_spelled, nodes}
use Rattle.rcv_picture.specs.Drawn.{anchor_word, place_text, text_attributes, shape_node, tag_of, title_nodes, titles_of, tagged, group_node}
use Rattle.rcv_picture.specs.Drawn.{run_words, event_words, crash_words, undone_words, fold_words, on_lines, style, tree_of}
use Rattle.rcv_picture.specs.Drawn.{arrow_head, arrow_heads, head_sizes, head_shape, background, root_attributes, view_box}
use Rattle.rcv_picture.specs.Size.{shape_room, shapes_room, groups_room, PicturesAreShort}
use Rattle.rcv_picture.specs.declared.group.Counts.{Counts}
use Rattle.rcv_picture.specs.declared.group.Says.{Says}
use Rattle.rcv_picture.specs.declared.group.Says.TheVariants.{Nothing, Entry, Fold, Arrow}
use Rattle.rcv_picture.specs.declared.group.Group.{Group}
use Rattle.rcv_picture.proofs.Spelling.{Stands, escape_stands}

stands_short : (w : List ℕ) → Stands w → length w ≤ 6
stands_short w (inl (inl e)) = let k : length w ≡ 5 = ap length e in omega (arith, k)
stands_short w (inl (inr (inl e))) = let k : length w ≡ 4 = ap length e in omega (arith, k)
stands_short w (inl (inr (inr (inl e)))) = let k : length w ≡ 4 = ap length e in omega (arith, k)
stands_short w (inl (inr (inr (inr e)))) = let k : length w ≡ 6 = ap length e in omega (arith, k)
stands_short w (inr (y, e, plain)) = let k : length w ≡ 1 = ap length e in omega (arith, k)

words_short : (bs : List ℕ) → length (escaped bs) ≤ 6 * length bs
words_short [] = omega arith
words_short (c ∷ cs) = omega (arith, length-append (escape c) (escaped cs), stands_short (escape c) (escape_stands c), words_short cs)

pick : (b : Bool) (x y : List ℕ) (m : ℕ) → length x ≤ m → length y ≤ m → length (if b then x else y) ≤ m
pick true x y m a b = a
pick false x y m a b = b

onto_short : (k n : ℕ) (acc : List ℕ) → length (digits_onto k 10 false n acc) ≤ k + length acc
onto_short zero n acc = omega arith
onto_short (suc k) n acc =
    pick (n / 10 == 0) (digit_glyph false (n % 10) ∷ acc) (digits_onto k 10 false (n / 10) (digit_glyph false (n % 10) ∷ acc)) (suc k + length acc) (omega arith)
    (omega (arith, onto_short k (n / 10) (digit_glyph false (n % 10) ∷ acc)))

number_short : (n : ℕ) → length (decimal n) ≤ 64
unfolding digits
number_short n = omega (arith, onto_short 64 n [])

class_short : (look : Look) → length (class_of look) ≤ 30
class_short looks.Plain = omega arith
class_short looks.Bold = omega arith
class_short looks.Head = omega arith
class_short looks.Big = omega arith
class_short looks.Note = omega arith
class_short looks.Small = omega arith
class_short looks.Count = omega arith
class_short looks.PointOnSend = omega arith
class_short looks.PointOnReceive = omega arith
class_short looks.PointUndone = omega arith
class_short looks.Label = omega arith
class_short looks.LabelUndone = omega arith
class_short looks.NoteUndone = omega arith
class_short looks.NoteAgain = omega arith
class_short looks.NoteGood = omega arith
class_short looks.NoteLost = omega arith
class_short looks.Again = omega arith
class_short looks.Lost = omega arith
class_short looks.Failed = omega arith
class_short looks.NoteFailed = omega arith
class_short looks.Good = omega arith
class_short looks.Background = omega arith
class_short looks.Life = omega arith
class_short looks.Gone = omega arith
class_short looks.Down = omega arith
class_short looks.Halo = omega arith
class_short looks.Zone = omega arith
class_short looks.Cut = omega arith
class_short looks.Back = omega arith
class_short looks.Rise = omega arith
class_short looks.Band = omega arith
class_short looks.LostPill = omega arith
class_short looks.KeptPill = omega arith
class_short looks.FailedPill = omega arith
class_short looks.Wire = omega arith
class_short looks.WireUndone = omega arith
class_short looks.WireAgain = omega arith
class_short looks.WirePlain = omega arith
class_short looks.Waiting = omega arith
class_short looks.Send = omega arith
class_short looks.Receive = omega arith
class_short looks.SendUndone = omega arith
class_short looks.ReceiveUndone = omega arith
class_short looks.Dot = omega arith
class_short looks.Strike = omega arith
class_short looks.Crash = omega arith
class_short looks.Box = omega arith
class_short looks.FoldBox = omega arith
class_short looks.Tag = omega arith
class_short looks.Grid = omega arith
class_short looks.Divider = omega arith
class_short looks.BarKept = omega arith
class_short looks.BarUndone = omega arith
class_short looks.BarShown = omega arith

-- What the names, values and words of a node allow.
abbrev attributes_room : List Attribute → ℕ
attributes_room [] = 0
attributes_room (a ∷ more) = length a.name + 4 + 6 * length a.value + attributes_room more

abbrev mutual
  node_room : Node → ℕ
  node_room (Words words) = 6 * length words
  node_room (Leaf name attributes) = length name + 3 + attributes_room attributes
  node_room (Element name attributes children) = 2 * length name + 5 + attributes_room attributes + all_room children

  all_room : Nodes → ℕ
  all_room NoNodes = 0
  all_room (Beside first others) = node_room first + all_room others

attribute_short : (a : Attribute) → length (attribute_text a) ≤ length a.name + 4 + 6 * length a.value
unfolding attribute_text
attribute_short a =
    omega (
      arith,
      length-append (codes " ") a.name,
      length-append (codes " " ++ a.name) (codes "=\""),
      length-append (codes " " ++ a.name ++ codes "=\"") (escaped a.value),
      length-append (codes " " ++ a.name ++ codes "=\"" ++ escaped a.value) (codes "\""),
      words_short a.value,
    )

attributes_short : (attributes : List Attribute) → length (attributes_text attributes) ≤ attributes_room attributes
attributes_short [] = omega arith
attributes_short (a ∷ more) = omega (arith, length-append (attribute_text a) (attributes_text more), attribute_short a, attributes_short more)

mutual
  node_short : (node : Node) → length (spelled node) ≤ node_room node
  node_short (Words words) = words_short words
  node_short (Leaf name attributes) =
      omega (
        arith,
        length-append (codes "<") name,
        length-append (codes "<" ++ name) (attributes_text attributes),
        length-append (codes "<" ++ name ++ attributes_text attributes) (codes "/>"),
        attributes_short attributes,
      )
  node_short (Element name attributes children) =
      let tag : List ℕ = codes "<" ++ name ++ attributes_text attributes in
      omega (
        arith,
        length-append (codes "<") name,
        length-append (codes "<" ++ name) (attributes_text attributes),
        length-append tag (codes ">"),
        length-append (tag ++ codes ">") (all_spelled children),
        length-append (tag ++ codes ">" ++ all_spelled children) (codes "</" ++ name ++ codes ">"),
        length-append (codes "</" ++ name) (codes ">"),
        length-append (codes "</") name,
        attributes_short attributes,
        all_short children,
      )

  all_short : (ns : Nodes) → length (all_spelled ns) ≤ all_room ns
  all_short NoNodes = omega arith
  all_short (Beside first others) = omega (arith, length-append (spelled first) (all_spelled others), node_short first, all_short others)

place_short : (p : At) → length (place_text p) ≤ 130
place_short p =
    omega (
      arith,
      length-append (codes " ") (decimal p.x.0),
      length-append (codes " " ++ decimal p.x.0) (codes " "),
      length-append (codes " " ++ decimal p.x.0 ++ codes " ") (decimal p.y.0),
      number_short p.x.0,
      number_short p.y.0,
    )

places_short : (ps : List At) → length (flat_map place_text ps) ≤ 130 * length ps
places_short [] = omega arith
places_short (p ∷ ps) = omega (arith, length-append (place_text p) (flat_map place_text ps), place_short p, places_short ps)

anchor_short : (a : Anchor) → length (anchor_word a) ≤ 6
anchor_short anchors.Start = omega arith
anchor_short anchors.Middle = omega arith
anchor_short anchors.End = omega arith

shape_short : (s : Shape) → node_room (shape_node s) ≤ shape_room s
unfolding text_attributes
shape_short (Line from to look) =
    omega (arith, class_short look, number_short from.x.0, number_short from.y.0, number_short to.x.0, number_short to.y.0)
shape_short (Rect corner width height round look) =
    omega (arith, class_short look, number_short corner.x.0, number_short corner.y.0, number_short width.0, number_short height.0, number_short round.0)
shape_short (Circle center radius look) =
    omega (arith, class_short look, number_short center.x.0, number_short center.y.0, number_short radius.0)
shape_short (Path places look) = omega (arith, class_short look, places_short places.items)
shape_short (Text place anchor look text) =
    omega (arith, class_short look, number_short place.x.0, number_short place.y.0, anchor_short anchor)

shapes_short : (ss : List Shape) → all_room (nodes (map shape_node ss)) ≤ shapes_room ss
shapes_short [] = omega arith
shapes_short (s ∷ ss) = omega (arith, shape_short s, shapes_short ss)

room_behind : (xs ys : List Node) → all_room (nodes (xs ++ ys)) ≡ all_room (nodes xs) + all_room (nodes ys)
room_behind [] ys = omega arith
room_behind (x ∷ xs) ys = omega (arith, room_behind xs ys)

title_short : (title : List ℕ) → all_room (nodes (title_nodes title)) ≤ 3300 + 6 * length title
title_short [] = omega arith
title_short (c ∷ cs) = omega arith

run_short : (first end : ℕ) → length (run_words first end) ≤ 142
unfolding run_words
run_short first end =
    omega (
      arith,
      length-append (codes "entries ") (decimal (first + 1)),
      length-append (codes "entries " ++ decimal (first + 1)) (codes " to "),
      length-append (codes "entries " ++ decimal (first + 1) ++ codes " to ") (decimal end),
      length-append (codes "entries " ++ decimal (first + 1) ++ codes " to " ++ decimal end) (codes ": "),
      number_short (first + 1),
      number_short end,
    )

event_short : (counts : Counts) → length (event_words counts) ≤ 146
unfolding event_words
event_short counts =
    omega (
      arith,
      length-append (decimal counts.sends) (codes " sent, "),
      length-append (decimal counts.sends ++ codes " sent, ") (decimal counts.receives),
      length-append (decimal counts.sends ++ codes " sent, " ++ decimal counts.receives) (codes " received, "),
      number_short counts.sends,
      number_short counts.receives,
    )

crash_short : (counts : Counts) → length (crash_words counts) ≤ 151
unfolding crash_words
crash_short counts =
    omega (
      arith,
      length-append (decimal counts.crashes) (codes " crashes, "),
      length-append (decimal counts.crashes ++ codes " crashes, ") (decimal counts.recoveries),
      length-append (decimal counts.crashes ++ codes " crashes, " ++ decimal counts.recoveries) (codes " recoveries; "),
      number_short counts.crashes,
      number_short counts.recoveries,
    )

undone_short : (counts : Counts) → length (undone_words counts) ≤ 71
unfolding undone_words
undone_short counts = omega (arith, length-append (decimal counts.undone) (codes " undone"), number_short counts.undone)

fold_short : (first end : ℕ) (counts : Counts) → length (fold_words first end counts) ≤ 510
unfolding fold_words
fold_short first end counts =
    omega (
      arith,
      length-append (run_words first end) (event_words counts),
      length-append (run_words first end ++ event_words counts) (crash_words counts),
      length-append (run_words first end ++ event_words counts ++ crash_words counts) (undone_words counts),
      run_short first end,
      event_short counts,
      crash_short counts,
      undone_short counts,
    )

titles_short : (says : Says) (title : List ℕ) → all_room (nodes (titles_of says title)) ≤ 3300 + 6 * length title
titles_short Nothing title = title_short title
titles_short (Entry place undone) title = title_short title
titles_short (Fold first end counts) title = omega (arith, fold_short first end counts)
titles_short (Arrow send receive undone) title = title_short title

mark_short : (undone : Bool) → length (if undone then codes "mark undone" else codes "mark") ≤ 12
mark_short true = omega arith
mark_short false = omega arith

arrow_short : (undone : Bool) → length (if undone then codes "arrow undone" else codes "arrow") ≤ 12
arrow_short true = omega arith
arrow_short false = omega arith

tag_short : (says : Says) → attributes_room (tag_of says) ≤ 1200
tag_short Nothing = omega arith
tag_short (Entry place undone) = omega (arith, mark_short undone, length-append (codes "e") (decimal (place + 1)), number_short (place + 1))
tag_short (Fold first end counts) =
    omega (
      arith,
      length-append (codes "f") (decimal (first + 1)),
      length-append (codes "f" ++ decimal (first + 1)) (codes "-"),
      length-append (codes "f" ++ decimal (first + 1) ++ codes "-") (decimal end),
      number_short (first + 1),
      number_short end,
    )
tag_short (Arrow send receive undone) =
    omega (
      arith,
      arrow_short undone,
      length-append (codes "e") (decimal (send + 1)),
      length-append (codes "e" ++ decimal (send + 1)) (codes "-e"),
      length-append (codes "e" ++ decimal (send + 1) ++ codes "-e") (decimal (receive + 1)),
      number_short (send + 1),
      number_short (receive + 1),
    )

tagged_short : (says : Says) (title : List ℕ) (shapes : List Shape) → node_room (tagged says title shapes) ≤ 4600 + 6 * length title + shapes_room shapes
tagged_short says title shapes =
    omega (arith, tag_short says, room_behind (titles_of says title) (map shape_node shapes), titles_short says title, shapes_short shapes)

groups_short : (gs : List Group) → all_room (nodes (on_lines (map group_node gs))) ≤ 6 + groups_room gs
groups_short [] = omega arith
groups_short (g ∷ gs) = omega (arith, tagged_short g.says g.title.items g.shapes.items, groups_short gs)

style_short : length style ≤ 3100
unfolding style
style_short = omega arith

heads_short : node_room arrow_heads ≤ 4000
unfolding arrow_heads arrow_head head_sizes head_shape
heads_short = omega arith

background_short : (width height : ℕ) → node_room (background width height) ≤ 1000
unfolding background
background_short width height = omega (arith, number_short width, number_short height)

root_short : (width height : ℕ) → attributes_room (root_attributes width height) ≤ 2000
unfolding root_attributes view_box
root_short width height =
    omega (
      arith,
      length-append (codes "0 0 ") (decimal width),
      length-append (codes "0 0 " ++ decimal width) (codes " "),
      length-append (codes "0 0 " ++ decimal width ++ codes " ") (decimal height),
      number_short width,
      number_short height,
    )

pub pictures_short : PicturesAreShort
pictures_short picture =
    omega (
      arith,
      node_short (tree_of picture),
      root_short picture.width.0 picture.height.0,
      style_short,
      heads_short,
      background_short picture.width.0 picture.height.0,
      groups_short picture.groups.items,
    )
