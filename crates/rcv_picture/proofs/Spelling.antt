-- What a proper tree spells is well formed.
use Rattle.std.proofs.Common.{◌≡◌, ◌⊎◌, inl, inr, ℕ, List, [], ◌∷◌, ◌++◌, refl, sym, ap, subst, append_assoc}
use Rattle.std.specs.Prelude.{Bool, true, false, not, ◌&&◌, ◌==◌, if◌then◌else◌, codes, map}
use Rattle.rcv_picture.specs.Tree.{Attribute, Node, Words, Leaf, Element, Nodes, NoNodes, Beside, is_shown, escape, escaped, attribute_text, attributes_text, spelled, all_spelled}
use Rattle.rcv_picture.specs.WellFormed.{is_name, is_among, is_plain, is_plain_in_value, IsEntity}
use Rattle.rcv_picture.specs.WellFormed.{IsValue, EndOfValue, ByteOfValue, EntityOfValue, AreAttributes, NoAttribute, OneAttribute}
use Rattle.rcv_picture.specs.WellFormed.{IsContent, EndOfContent, ByteOfContent, EntityOfContent, ElementOfContent, IsElement, OneTag, TwoTags}
use Rattle.rcv_picture.specs.Laws.{name_of, are_proper_attributes, is_proper, are_proper, TreesAreWellFormed}

pub and_left : (a b : Bool) → (a && b) ≡ true → a ≡ true
and_left true b e = refl
and_left false b e = e

pub and_right : (a b : Bool) → (a && b) ≡ true → b ≡ true
and_right true b e = e
and_right false b e = cc (e)

pub both : (a b : Bool) → a ≡ true → b ≡ true → (a && b) ≡ true
both true b e f = f
both false b e f = e

is_not : (a : Bool) → not a ≡ true → a ≡ false
is_not true e = sym e
is_not false e = refl

-- A byte is written as an entity, or as a byte that stands for itself.
abbrev pub Stands : List ℕ → Type 0
Stands w = IsEntity w ⊎ ((y : ℕ) × (w ≡ y ∷ []) × (is_plain_in_value y ≡ true))

abbrev written : Bool → Bool → Bool → Bool → Bool → ℕ → List ℕ
written a l g q s c =
    if a then codes "&amp;" else if l then codes "&lt;" else if g then codes "&gt;" else if q then codes "&quot;" else
    if s then c ∷ [] else codes "?"

stands : (a l g q s : Bool) (c : ℕ) → a ≡ (c == 38) → l ≡ (c == 60) → q ≡ (c == 34) → s ≡ is_shown c → Stands (written a l g q s c)
stands true l g q s c ea el eq es = inl (inl refl)
stands false true g q s c ea el eq es = inl (inr (inl refl))
stands false false true q s c ea el eq es = inl (inr (inr (inl refl)))
stands false false false true s c ea el eq es = inl (inr (inr (inr refl)))
stands false false false false true c ea el eq es =
    inr (
      c,
      refl,
      both (is_plain c) (not (c == 34))
          (both (is_shown c) (not (c == 60) && not (c == 38)) (sym es)
          (both (not (c == 60)) (not (c == 38)) (ap not (sym el)) (ap not (sym ea))))
          (ap not (sym eq)),
    )
stands false false false false false c ea el eq es = inr (63, refl, refl)

pub escape_stands : (c : ℕ) → Stands (escape c)
escape_stands c = stands (c == 38) (c == 60) (c == 62) (c == 34) (is_shown c) c refl refl refl refl

value_more : (w rest : List ℕ) → Stands w → IsValue rest → IsValue (w ++ rest)
value_more w rest (inl entity) after = EntityOfValue w rest entity after
value_more w rest (inr (y, is, plain)) after = subst (λ (v : List ℕ). IsValue (v ++ rest)) (sym is) (ByteOfValue y rest plain after)

value_fits : (bytes : List ℕ) → IsValue (escaped bytes)
value_fits [] = EndOfValue
value_fits (c ∷ cs) = value_more (escape c) (escaped cs) (escape_stands c) (value_fits cs)

content_more : (w rest : List ℕ) → Stands w → IsContent rest → IsContent (w ++ rest)
content_more w rest (inl entity) after = EntityOfContent w rest entity after
content_more w rest (inr (y, is, plain)) after =
    subst (λ (v : List ℕ). IsContent (v ++ rest)) (sym is) (ByteOfContent y rest (and_left (is_plain y) (not (y == 34)) plain) after)

content_fits : (bytes rest : List ℕ) → IsContent rest → IsContent (escaped bytes ++ rest)
content_fits [] rest after = after
content_fits (c ∷ cs) rest after =
    subst IsContent (sym (append_assoc (escape c) (escaped cs) rest))
    (content_more (escape c) (escaped cs ++ rest) (escape_stands c) (content_fits cs rest after))

attributes_fit : (attributes : List Attribute) → are_proper_attributes attributes ≡ true → AreAttributes (map name_of attributes) (attributes_text attributes)
unfolding attribute_text
attributes_fit [] proper = NoAttribute
attributes_fit (a ∷ more) proper =
    let later = and_right (is_name a.name) (not (is_among a.name (map name_of more)) && are_proper_attributes more) proper in
    OneAttribute a.name (escaped a.value) (map name_of more) (attributes_text more)
    (and_left (is_name a.name) (not (is_among a.name (map name_of more)) && are_proper_attributes more) proper)
    (is_not (is_among a.name (map name_of more)) (and_left (not (is_among a.name (map name_of more))) (are_proper_attributes more) later))
    (value_fits a.value)
    (attributes_fit more (and_right (not (is_among a.name (map name_of more))) (are_proper_attributes more) later))

leaf_fits : (name : List ℕ) (attributes : List Attribute) → is_proper (Leaf name attributes) ≡ true → IsElement (spelled (Leaf name attributes))
leaf_fits name attributes proper =
    OneTag name (map name_of attributes) (attributes_text attributes)
    (and_left (is_name name) (are_proper_attributes attributes) proper)
    (attributes_fit attributes (and_right (is_name name) (are_proper_attributes attributes) proper))

element_fits : (name : List ℕ) (attributes : List Attribute) (children : Nodes) → is_proper (Element name attributes children) ≡ true → IsContent (all_spelled children) → IsElement (spelled (Element name attributes children))
element_fits name attributes children proper content =
    TwoTags name (map name_of attributes) (attributes_text attributes) (all_spelled children)
    (and_left (is_name name) (are_proper_attributes attributes && are_proper children) proper)
    (attributes_fit attributes
    (and_left (are_proper_attributes attributes) (are_proper children)
    (and_right (is_name name) (are_proper_attributes attributes && are_proper children) proper)))
    content

children_proper : (name : List ℕ) (attributes : List Attribute) (children : Nodes) → is_proper (Element name attributes children) ≡ true → are_proper children ≡ true
children_proper name attributes children proper =
    and_right (are_proper_attributes attributes) (are_proper children)
    (and_right (is_name name) (are_proper_attributes attributes && are_proper children) proper)

mutual
  node_fits : (node : Node) → is_proper node ≡ true → (rest : List ℕ) → IsContent rest → IsContent (spelled node ++ rest)
  node_fits (Words words) proper rest after = content_fits words rest after
  node_fits (Leaf name attributes) proper rest after =
      ElementOfContent (spelled (Leaf name attributes)) rest (leaf_fits name attributes proper) after
  node_fits (Element name attributes children) proper rest after =
      ElementOfContent (spelled (Element name attributes children)) rest
      (element_fits name attributes children proper (all_fit children (children_proper name attributes children proper))) after

  all_fit : (nodes : Nodes) → are_proper nodes ≡ true → IsContent (all_spelled nodes)
  all_fit NoNodes proper = EndOfContent
  all_fit (Beside first others) proper =
      node_fits first (and_left (is_proper first) (are_proper others) proper) (all_spelled others)
      (all_fit others (and_right (is_proper first) (are_proper others) proper))

pub well_formed : TreesAreWellFormed
well_formed name attributes children proper =
    element_fits name attributes children proper (all_fit children (children_proper name attributes children proper))
