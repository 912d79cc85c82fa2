-- Two attributes.
use Rattle.std.proofs.Common.{◌≡◌, ◌∙◌, ℕ, List, ◌++◌, OnOk, codes, ap, subst}
use Rattle.rcv_picture.specs.Tree.{attribute_text}
use Rattle.rcv_picture.specs.Drawn.{attribute, head_shape}
use Rattle.rcv_picture.proofs.Chains.{tag_two}
use Rattle.rcv_picture.proofs.text.put_head_shape.Goals as goal

pub returns : goal.returns
unfolding head_shape
returns c =
    let t = c.args.text.now in
    let p1 : List ℕ = codes "<path" in
    let p2 : List ℕ = attribute_text (attribute (codes "class") c.args.class.now) in
    let p3 : List ℕ = attribute_text (attribute (codes "d") (codes "M 0 0 L 14 7 L 0 14 Z")) in
    let end : List ℕ = codes "/>" in
    let s1 = c.in_ok-word.ensures.ok in
    let s2 = c.in_ok-put_attribute.ensures ∙ ap (λ (s : List ℕ). s ++ p2) s1 in
    let s3 = c.in_ok-put_attribute-2.ensures ∙ ap (λ (s : List ℕ). s ++ p3) s2 in
    let said = ap (λ (s : List ℕ). s ++ end) s3 ∙ tag_two t p1 p2 p3 end in
    subst (λ (s : List ℕ). OnOk c.word-2.result (c.word-2.new.self ≡ s)) said c.word-2.ensures.ok
