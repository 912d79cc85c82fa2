-- Its tag, its title and its shapes.
use Rattle.std.proofs.Common.{◌≡◌, ◌∙◌, ℕ, List, ◌++◌, OnOk, codes, flat_map, map, sym, ap, subst}
use Rattle.rcv_picture.specs.Tree.{attributes_text, nodes, all_spelled}
use Rattle.rcv_picture.specs.Drawn.{tag_of, titles_of, shape_node, shape_text}
use Rattle.rcv_picture.proofs.Chains.{group_pieces}
use Rattle.rcv_picture.proofs.Lists.{spelled_behind, shapes_spelled}
use Rattle.rcv_picture.proofs.groups.put_tagged.Goals as goal

pub returns : goal.returns
returns c =
    let t = c.args.text.now in
    let p1 : List ℕ = codes "<g" ++ attributes_text (tag_of c.args.says) ++ codes ">" in
    let p2 : List ℕ = all_spelled (nodes (titles_of c.args.says c.args.title.now)) in
    let p3 : List ℕ = flat_map shape_text c.args.shapes.now in
    let end : List ℕ = codes "</g>" in
    let s1 = c.in_ok-put_tag.ensures in
    let s2 = c.in_ok-put_group_title.ensures ∙ ap (λ (s : List ℕ). s ++ p2) s1 in
    let s3 = c.in_ok-put_shapes.ensures ∙ ap (λ (s : List ℕ). s ++ p3) s2 in
    let said = ap (λ (s : List ℕ). s ++ end) s3 ∙ group_pieces t (codes "<g") (attributes_text (tag_of c.args.says)) (codes ">") p2 p3 end
    ∙ ap (λ (s : List ℕ). t ++ (codes "<g" ++ attributes_text (tag_of c.args.says) ++ codes ">" ++ s ++ end))
    (ap (λ (s : List ℕ). p2 ++ s) (sym (shapes_spelled c.args.shapes.now))
    ∙ sym (spelled_behind (titles_of c.args.says c.args.title.now) (map shape_node c.args.shapes.now))) in
    subst (λ (s : List ℕ). OnOk c.word.result (c.word.new.self ≡ s)) said c.word.ensures.ok
