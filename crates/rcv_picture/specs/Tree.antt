-- Elements of XML as trees, and how they are spelled.
use Rattle.std.specs.Prelude.{ℕ, Bool, List, [], ◌∷◌, ◌++◌, ◌==◌, ◌||◌, nat_lt, if◌then◌else◌, flat_map, codes}

pub record Attribute : Type 0 where
  pub name : List ℕ
  pub value : List ℕ

-- A text, an element without children, or one with a list of them, which may be empty.
mutual
  pub data Node : Type 0 where
    Words : (words : List ℕ) → Node
    Leaf : (name : List ℕ) (attributes : List Attribute) → Node
    Element : (name : List ℕ) (attributes : List Attribute) (children : Nodes) → Node

  pub data Nodes : Type 0 where
    NoNodes : Nodes
    Beside : (first : Node) (others : Nodes) → Nodes

abbrev pub nodes : List Node → Nodes
nodes [] = NoNodes
nodes (n ∷ ns) = Beside n (nodes ns)

-- a byte that a document may have: no control byte but the line feed
abbrev pub is_shown : ℕ → Bool
is_shown c = (c == 10) || nat_lt 31 c

-- A byte as it is written in texts and values: one that marks up as an entity, and one that a document can't have as `?`.
abbrev pub escape : ℕ → List ℕ
escape c =
    if c == 38 then codes "&amp;" else
    if c == 60 then codes "&lt;" else
    if c == 62 then codes "&gt;" else
    if c == 34 then codes "&quot;" else
    if is_shown c then c ∷ [] else codes "?"

abbrev pub escaped : List ℕ → List ℕ
escaped bytes = flat_map escape bytes

-- ` name="value"`
unfoldable pub attribute_text : Attribute → List ℕ
attribute_text a = codes " " ++ a.name ++ codes "=\"" ++ escaped a.value ++ codes "\""

abbrev pub attributes_text : List Attribute → List ℕ
attributes_text attributes = flat_map attribute_text attributes

-- `<name a="v"/>`, or `<name a="v">`, the children and `</name>`; and nodes one after another.
abbrev mutual
  pub spelled : Node → List ℕ
  spelled (Words words) = escaped words
  spelled (Leaf name attributes) = codes "<" ++ name ++ attributes_text attributes ++ codes "/>"
  spelled (Element name attributes children) =
      codes "<" ++ name ++ attributes_text attributes ++ codes ">" ++ all_spelled children
      ++ (codes "</" ++ name ++ codes ">")

  pub all_spelled : Nodes → List ℕ
  all_spelled NoNodes = []
  all_spelled (Beside first others) = spelled first ++ all_spelled others
