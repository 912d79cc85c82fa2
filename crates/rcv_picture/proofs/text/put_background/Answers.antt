-- Three attributes.
use Rattle.std.proofs.Common.{◌≡◌, ◌∙◌, ℕ, List, ◌++◌, OnOk, codes, ap, subst}
use Rattle.rcv_picture.specs.Tree.{attribute_text}
use Rattle.rcv_picture.specs.Drawn.{number, attribute, background}
use Rattle.rcv_picture.proofs.Chains.{tag_three}
use Rattle.rcv_picture.proofs.text.put_background.Goals as goal

pub returns : goal.returns
unfolding background
returns c =
    let t = c.args.text.now in
    let p1 : List ℕ = codes "<rect" in
    let p2 : List ℕ = attribute_text (attribute (codes "class") (codes "background")) in
    let p3 : List ℕ = attribute_text (number (codes "width") c.args.width.0) in
    let p4 : List ℕ = attribute_text (number (codes "height") c.args.height.0) in
    let end : List ℕ = codes "/>" in
    let s1 = c.in_ok-word.ensures.ok in
    let s2 = c.in_ok-put_attribute.ensures ∙ ap (λ (s : List ℕ). s ++ p2) s1 in
    let s3 = c.in_ok-put_number.ensures ∙ ap (λ (s : List ℕ). s ++ p3) s2 in
    let s4 = c.in_ok-put_number-2.ensures ∙ ap (λ (s : List ℕ). s ++ p4) s3 in
    let said = ap (λ (s : List ℕ). s ++ end) s4 ∙ tag_three t p1 p2 p3 p4 end in
    subst (λ (s : List ℕ). OnOk c.word-2.result (c.word-2.new.self ≡ s)) said c.word-2.ensures.ok
