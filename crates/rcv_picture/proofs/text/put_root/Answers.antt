-- Five attributes.
use Rattle.std.proofs.Common.{◌≡◌, ◌∙◌, ℕ, List, ◌++◌, OnOk, codes, ap, subst}
use Rattle.rcv_picture.specs.Tree.{attribute_text}
use Rattle.rcv_picture.specs.Drawn.{number, attribute, view_box, root_attributes}
use Rattle.rcv_picture.proofs.Chains.{open_five}
use Rattle.rcv_picture.proofs.text.put_root.Goals as goal

pub returns : goal.returns
unfolding root_attributes
returns c =
    let t = c.args.text.now in
    let p1 : List ℕ = codes "<svg" in
    let p2 : List ℕ = attribute_text (attribute (codes "xmlns") (codes "http://www.w3.org/2000/svg")) in
    let p3 : List ℕ = attribute_text (number (codes "width") c.args.width.0) in
    let p4 : List ℕ = attribute_text (number (codes "height") c.args.height.0) in
    let p5 : List ℕ = attribute_text (view_box c.args.width.0 c.args.height.0) in
    let p6 : List ℕ = attribute_text (attribute (codes "role") (codes "img")) in
    let end : List ℕ = codes ">" in
    let s1 = c.in_ok-word.ensures.ok in
    let s2 = c.in_ok-put_attribute.ensures ∙ ap (λ (s : List ℕ). s ++ p2) s1 in
    let s3 = c.in_ok-put_number.ensures ∙ ap (λ (s : List ℕ). s ++ p3) s2 in
    let s4 = c.in_ok-put_number-2.ensures ∙ ap (λ (s : List ℕ). s ++ p4) s3 in
    let s5 = c.in_ok-put_view_box.ensures ∙ ap (λ (s : List ℕ). s ++ p5) s4 in
    let s6 = c.in_ok-put_attribute-2.ensures ∙ ap (λ (s : List ℕ). s ++ p6) s5 in
    let said = ap (λ (s : List ℕ). s ++ end) s6 ∙ open_five t p1 p2 p3 p4 p5 p6 end in
    subst (λ (s : List ℕ). OnOk c.byte.result (c.byte.new.self ≡ s)) said c.byte.ensures.ok
