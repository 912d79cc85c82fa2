-- Four attributes.
use Rattle.std.proofs.Common.{◌≡◌, ◌∙◌, ℕ, List, ◌++◌, OnOk, codes, ap, subst}
use Rattle.rcv_picture.specs.Tree.{attribute_text}
use Rattle.rcv_picture.specs.Drawn.{class, number, attribute, anchor_word, text_attributes}
use Rattle.rcv_picture.proofs.Chains.{open_four}
use Rattle.rcv_picture.proofs.shapes.put_text_tag.Goals as goal

pub returns : goal.returns
unfolding text_attributes
returns c =
    let t = c.args.text.now in
    let p1 : List ℕ = codes "<text" in
    let p2 : List ℕ = attribute_text (class c.args.look) in
    let p3 : List ℕ = attribute_text (number (codes "x") c.args.place.x.0) in
    let p4 : List ℕ = attribute_text (number (codes "y") c.args.place.y.0) in
    let p5 : List ℕ = attribute_text (attribute (codes "text-anchor") (anchor_word c.args.anchor)) in
    let end : List ℕ = codes ">" in
    let s1 = c.in_ok-word.ensures.ok in
    let s2 = c.in_ok-put_class.ensures ∙ ap (λ (s : List ℕ). s ++ p2) s1 in
    let s3 = c.in_ok-put_number.ensures ∙ ap (λ (s : List ℕ). s ++ p3) s2 in
    let s4 = c.in_ok-put_number-2.ensures ∙ ap (λ (s : List ℕ). s ++ p4) s3 in
    let s5 = c.in_ok-put_anchor.ensures ∙ ap (λ (s : List ℕ). s ++ p5) s4 in
    let said = ap (λ (s : List ℕ). s ++ end) s5 ∙ open_four t p1 p2 p3 p4 p5 end in
    subst (λ (s : List ℕ). OnOk c.byte.result (c.byte.new.self ≡ s)) said c.byte.ensures.ok
