-- What holds of trees, of what they spell, and of the trees of pictures.
use Rattle.std.specs.Prelude.{◌≡◌, ℕ, Bool, true, false, not, ◌&&◌, List, [], ◌∷◌, map, codes}
use Rattle.rcv_picture.specs.declared.picture.Picture.{Picture}
use Rattle.rcv_picture.specs.Tree.{Attribute, Node, Words, Leaf, Element, Nodes, NoNodes, Beside, spelled}
use Rattle.rcv_picture.specs.Drawn.{tree_of}
use Rattle.rcv_picture.specs.WellFormed.{is_name, is_among, IsDocument}

abbrev pub name_of : Attribute → List ℕ
name_of a = a.name

-- each has a name, and no two have the same
abbrev pub are_proper_attributes : List Attribute → Bool
are_proper_attributes [] = true
are_proper_attributes (a ∷ more) =
    is_name a.name && (not (is_among a.name (map name_of more)) && are_proper_attributes more)

-- Each element has a name and proper attributes.
abbrev mutual
  pub is_proper : Node → Bool
  is_proper (Words words) = true
  is_proper (Leaf name attributes) = is_name name && are_proper_attributes attributes
  is_proper (Element name attributes children) =
      is_name name && (are_proper_attributes attributes && are_proper children)

  pub are_proper : Nodes → Bool
  are_proper NoNodes = true
  are_proper (Beside first others) = is_proper first && are_proper others

-- What a proper element spells is a document.
abbrev pub TreesAreWellFormed : Type 0
TreesAreWellFormed =
    (name : List ℕ) (attributes : List Attribute) (children : Nodes)
    → is_proper (Element name attributes children) ≡ true → IsDocument (spelled (Element name attributes children))

-- Each picture's text is a document.
abbrev pub PicturesAreWellFormed : Type 0
PicturesAreWellFormed =
    (picture : Picture) → (is_proper (tree_of picture) ≡ true) × IsDocument (spelled (tree_of picture))

-- whether all names of attributes are among these
abbrev pub are_named : List (List ℕ) → List Attribute → Bool
are_named names [] = true
are_named names (a ∷ more) = is_among a.name names && are_named names more

-- Whether all names of elements and of attributes are among these.
abbrev mutual
  pub has_only : List (List ℕ) → List (List ℕ) → Node → Bool
  has_only elements names (Words words) = true
  has_only elements names (Leaf name attributes) = is_among name elements && are_named names attributes
  has_only elements names (Element name attributes children) =
      is_among name elements && (are_named names attributes && have_only elements names children)

  pub have_only : List (List ℕ) → List (List ℕ) → Nodes → Bool
  have_only elements names NoNodes = true
  have_only elements names (Beside first others) = has_only elements names first && have_only elements names others

abbrev pub drawn_elements : List (List ℕ)
drawn_elements =
    codes "svg" ∷ codes "title" ∷ codes "desc" ∷ codes "style" ∷ codes "defs" ∷ codes "marker" ∷ codes "g"
    ∷ codes "line" ∷ codes "rect" ∷ codes "circle" ∷ codes "path" ∷ codes "text" ∷ []

abbrev pub drawn_attributes : List (List ℕ)
drawn_attributes =
    codes "xmlns" ∷ codes "viewBox" ∷ codes "role" ∷ codes "id" ∷ codes "class" ∷ codes "refX" ∷ codes "refY"
    ∷ codes "markerWidth" ∷ codes "markerHeight" ∷ codes "markerUnits" ∷ codes "orient" ∷ codes "text-anchor"
    ∷ codes "x" ∷ codes "y" ∷ codes "x1" ∷ codes "y1" ∷ codes "x2" ∷ codes "y2" ∷ codes "width" ∷ codes "height"
    ∷ codes "rx" ∷ codes "cx" ∷ codes "cy" ∷ codes "r" ∷ codes "d" ∷ []

-- No picture has other elements and attributes than these, and so neither a script nor a link.
pub record PicturesStandAlone : Type 0 where
  pub names : (picture : Picture) → has_only drawn_elements drawn_attributes (tree_of picture) ≡ true
  pub no_script : is_among (codes "script") drawn_elements ≡ false
  pub no_link : is_among (codes "href") drawn_attributes ≡ false
