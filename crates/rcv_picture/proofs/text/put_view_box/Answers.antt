-- Its value is three pieces.
use Rattle.std.proofs.Common.{◌≡◌, ◌∙◌, ℕ, List, ◌++◌, OnOk, codes, decimal, sym, ap, subst}
use Rattle.rcv_picture.specs.Tree.{escaped, attribute_text}
use Rattle.rcv_picture.specs.Drawn.{view_box}
use Rattle.rcv_picture.proofs.Chains.{value_pieces, escaped_three}
use Rattle.rcv_picture.proofs.text.put_view_box.Goals as goal

pub returns : goal.returns
unfolding view_box attribute_text
returns c =
    let t = c.args.text.now in
    let p1 : List ℕ = codes " viewBox=\"0 0 " in
    let p2 : List ℕ = escaped (decimal c.args.width.0) in
    let p3 : List ℕ = codes " " in
    let p4 : List ℕ = escaped (decimal c.args.height.0) in
    let end : List ℕ = codes "\"" in
    let s1 = c.in_ok-word.ensures.ok in
    let s2 = c.in_ok-put_digits.ensures ∙ ap (λ (s : List ℕ). s ++ p2) s1 in
    let s3 = c.in_ok-byte.ensures.ok ∙ ap (λ (s : List ℕ). s ++ p3) s2 in
    let s4 = c.in_ok-put_digits-2.ensures ∙ ap (λ (s : List ℕ). s ++ p4) s3 in
    let said = ap (λ (s : List ℕ). s ++ end) s4 ∙ value_pieces t p1 p2 p3 p4 end ∙ ap (λ (s : List ℕ). t ++ (p1 ++ s ++ end)) (sym (escaped_three (decimal c.args.width.0) (codes " ") (decimal c.args.height.0))) in
    subst (λ (s : List ℕ). OnOk c.byte-2.result (c.byte-2.new.self ≡ s)) said c.byte-2.ensures.ok
