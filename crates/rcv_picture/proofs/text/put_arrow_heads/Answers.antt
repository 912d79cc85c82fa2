-- One head after another.
use Rattle.std.proofs.Common.{◌≡◌, ◌∙◌, ℕ, List, ◌++◌, OnOk, codes, ap, subst}
use Rattle.rcv_picture.specs.Tree.{spelled}
use Rattle.rcv_picture.specs.Drawn.{arrow_head, arrow_heads}
use Rattle.rcv_picture.proofs.Chains.{tag_four}
use Rattle.rcv_picture.proofs.text.put_arrow_heads.Goals as goal

pub returns : goal.returns
unfolding arrow_heads
returns c =
    let t = c.args.text.now in
    let p1 : List ℕ = codes "<defs>" in
    let p2 : List ℕ = spelled (arrow_head (codes "tip") (codes "tip")) in
    let p3 : List ℕ = spelled (arrow_head (codes "tip-undone") (codes "tip undone-tip")) in
    let p4 : List ℕ = spelled (arrow_head (codes "tip-again") (codes "tip again-tip")) in
    let p5 : List ℕ = spelled (arrow_head (codes "tip-back") (codes "tip back-tip")) in
    let end : List ℕ = codes "</defs>" in
    let s1 = c.in_ok-word.ensures.ok in
    let s2 = c.in_ok-put_arrow_head.ensures ∙ ap (λ (s : List ℕ). s ++ p2) s1 in
    let s3 = c.in_ok-put_arrow_head-2.ensures ∙ ap (λ (s : List ℕ). s ++ p3) s2 in
    let s4 = c.in_ok-put_arrow_head-3.ensures ∙ ap (λ (s : List ℕ). s ++ p4) s3 in
    let s5 = c.in_ok-put_arrow_head-4.ensures ∙ ap (λ (s : List ℕ). s ++ p5) s4 in
    let said = ap (λ (s : List ℕ). s ++ end) s5 ∙ tag_four t p1 p2 p3 p4 p5 end in
    subst (λ (s : List ℕ). OnOk c.word-2.result (c.word-2.new.self ≡ s)) said c.word-2.ensures.ok
