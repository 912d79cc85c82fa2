-- One part on a line, and each group on one.
use Rattle.std.proofs.Common.{◌≡◌, ◌∙◌, ℕ, List, [], ◌++◌, OnOk, codes, flat_map, sym, ap, subst}
use Rattle.rcv_picture.specs.Tree.{attributes_text, spelled}
use Rattle.rcv_picture.specs.Drawn.{root_attributes, words_in, style, arrow_heads, background, group_line}
use Rattle.rcv_picture.proofs.Chains.{picture_pieces}
use Rattle.rcv_picture.proofs.Lists.{groups_spelled}
use Rattle.rcv_picture.proofs.text.put_picture.Goals as goal

pub returns : goal.returns
returns c =
    let t = c.args.text.now in
    let p1 : List ℕ = codes "<svg" ++ attributes_text (root_attributes c.args.width.0 c.args.height.0) ++ codes ">" in
    let p2 : List ℕ = codes "\n" in
    let p3 : List ℕ = spelled (words_in (codes "title") [] c.args.title.now) in
    let p4 : List ℕ = codes "\n" in
    let p5 : List ℕ = spelled (words_in (codes "desc") [] c.args.description.now) in
    let p6 : List ℕ = codes "\n" in
    let p7 : List ℕ = spelled (words_in (codes "style") [] style) in
    let p8 : List ℕ = codes "\n" in
    let p9 : List ℕ = spelled arrow_heads in
    let p10 : List ℕ = codes "\n" in
    let p11 : List ℕ = spelled (background c.args.width.0 c.args.height.0) in
    let p12 : List ℕ = flat_map group_line c.args.groups.now in
    let end : List ℕ = codes "\n</svg>" in
    let s1 = c.in_ok-put_root.ensures in
    let s2 = c.in_ok-byte.ensures.ok ∙ ap (λ (s : List ℕ). s ++ p2) s1 in
    let s3 = c.in_ok-put_words_in.ensures ∙ ap (λ (s : List ℕ). s ++ p3) s2 in
    let s4 = c.in_ok-byte-2.ensures.ok ∙ ap (λ (s : List ℕ). s ++ p4) s3 in
    let s5 = c.in_ok-put_words_in-2.ensures ∙ ap (λ (s : List ℕ). s ++ p5) s4 in
    let s6 = c.in_ok-byte-3.ensures.ok ∙ ap (λ (s : List ℕ). s ++ p6) s5 in
    let s7 = c.in_ok-put_style.ensures ∙ ap (λ (s : List ℕ). s ++ p7) s6 in
    let s8 = c.in_ok-byte-4.ensures.ok ∙ ap (λ (s : List ℕ). s ++ p8) s7 in
    let s9 = c.in_ok-put_arrow_heads.ensures ∙ ap (λ (s : List ℕ). s ++ p9) s8 in
    let s10 = c.in_ok-byte-5.ensures.ok ∙ ap (λ (s : List ℕ). s ++ p10) s9 in
    let s11 = c.in_ok-put_background.ensures ∙ ap (λ (s : List ℕ). s ++ p11) s10 in
    let s12 = c.in_ok-put_groups.ensures ∙ ap (λ (s : List ℕ). s ++ p12) s11 in
    let said = ap (λ (s : List ℕ). s ++ end) s12 ∙ picture_pieces t (codes "<svg") (attributes_text (root_attributes c.args.width.0 c.args.height.0)) (codes ">") (codes "\n") p3 p5 p7 p9 p11 p12 (codes "</svg>")
    ∙ ap (λ (s : List ℕ). t ++ (p1 ++ (codes "\n" ++ (p3 ++ (codes "\n" ++ (p5 ++ (codes "\n" ++ (p7 ++ (codes "\n" ++ (p9 ++ (codes "\n" ++ (p11 ++ s)))))))))) ++ codes "</svg>")) (sym (groups_spelled c.args.groups.now)) in
    subst (λ (s : List ℕ). OnOk c.word.result (c.word.new.self ≡ s)) said c.word.ensures.ok
