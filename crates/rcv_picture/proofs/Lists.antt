-- How lists of nodes are spelled.
use Rattle.std.proofs.Common.{◌≡◌, ◌∙◌, ℕ, List, [], ◌∷◌, ◌++◌, refl, sym, ap, append_assoc}
use Rattle.std.specs.Prelude.{flat_map, map, codes}
use Rattle.std.proofs.lemmas.List.Folds.{flat_map-map}
use Rattle.rcv_picture.specs.declared.shape.Shape.{Shape}
use Rattle.rcv_picture.specs.declared.group.Group.{Group}
use Rattle.rcv_picture.specs.Tree.{Node, nodes, spelled, all_spelled}
use Rattle.rcv_picture.specs.Drawn.{shape_node, shape_text, group_node, group_line, on_lines}

-- one by one
nodes_spelled : (ns : List Node) → all_spelled (nodes ns) ≡ flat_map spelled ns
nodes_spelled [] = refl
nodes_spelled (n ∷ ns) = ap (λ (bytes : List ℕ). spelled n ++ bytes) (nodes_spelled ns)

pub spelled_behind : (ns ms : List Node) → all_spelled (nodes (ns ++ ms)) ≡ all_spelled (nodes ns) ++ all_spelled (nodes ms)
spelled_behind [] ms = refl
spelled_behind (n ∷ ns) ms =
    ap (λ (bytes : List ℕ). spelled n ++ bytes) (spelled_behind ns ms)
    ∙ sym (append_assoc (spelled n) (all_spelled (nodes ns)) (all_spelled (nodes ms)))

pub shapes_spelled : (shapes : List Shape) → all_spelled (nodes (map shape_node shapes)) ≡ flat_map shape_text shapes
unfolding shape_text
shapes_spelled shapes = nodes_spelled (map shape_node shapes) ∙ flat_map-map spelled shape_node shapes

abbrev line_text : Node → List ℕ
line_text n = codes "\n" ++ spelled n

lines_spelled : (ns : List Node) → all_spelled (nodes (on_lines ns)) ≡ flat_map line_text ns ++ codes "\n"
lines_spelled [] = refl
lines_spelled (n ∷ ns) =
    ap (λ (bytes : List ℕ). 10 ∷ spelled n ++ bytes) (lines_spelled ns)
    ∙ ap (λ (bytes : List ℕ). 10 ∷ bytes) (sym (append_assoc (spelled n) (flat_map line_text ns) (codes "\n")))

pub groups_spelled : (groups : List Group) → all_spelled (nodes (on_lines (map group_node groups))) ≡ flat_map group_line groups ++ codes "\n"
unfolding group_line
groups_spelled groups =
    lines_spelled (map group_node groups)
    ∙ ap (λ (bytes : List ℕ). bytes ++ codes "\n") (flat_map-map line_text group_node groups)
