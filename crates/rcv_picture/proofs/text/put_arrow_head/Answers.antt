-- Its tag, and its shape in it.
use Rattle.std.proofs.Common.{◌≡◌, ◌∙◌, ℕ, List, ◌++◌, OnOk, codes, ap, subst}
use Rattle.rcv_picture.specs.Tree.{attribute_text, attributes_text, spelled}
use Rattle.rcv_picture.specs.Drawn.{attribute, head_sizes, head_shape, arrow_head}
use Rattle.rcv_picture.proofs.Chains.{head_pieces}
use Rattle.rcv_picture.proofs.text.put_arrow_head.Goals as goal

pub returns : goal.returns
unfolding arrow_head
returns c =
    let t = c.args.text.now in
    let p1 : List ℕ = codes "<marker" in
    let p2 : List ℕ = attribute_text (attribute (codes "id") c.args.name.now) in
    let p3 : List ℕ = attributes_text head_sizes in
    let p4 : List ℕ = codes ">" in
    let p5 : List ℕ = spelled (head_shape c.args.class.now) in
    let end : List ℕ = codes "</marker>" in
    let s1 = c.in_ok-word.ensures.ok in
    let s2 = c.in_ok-put_attribute.ensures ∙ ap (λ (s : List ℕ). s ++ p2) s1 in
    let s3 = c.in_ok-put_head_sizes.ensures ∙ ap (λ (s : List ℕ). s ++ p3) s2 in
    let s4 = c.in_ok-byte.ensures.ok ∙ ap (λ (s : List ℕ). s ++ p4) s3 in
    let s5 = c.in_ok-put_head_shape.ensures ∙ ap (λ (s : List ℕ). s ++ p5) s4 in
    let said = ap (λ (s : List ℕ). s ++ end) s5 ∙ head_pieces t p1 p2 p3 p4 p5 end in
    subst (λ (s : List ℕ). OnOk c.word-2.result (c.word-2.new.self ≡ s)) said c.word-2.ensures.ok
