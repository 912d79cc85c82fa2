-- Up to the first space, or to the end.
use Rattle.std.proofs.Common.{◌∙◌, ◌-◌, ◌∷◌, List, ℕ, take, drop, length, sym, ap, arith}
use Rattle.std.proofs.lemmas.List.{length-drop, take_all}
use Rattle.rcv_dialogue.specs.Left.{left}
use Rattle.rcv_dialogue.proofs.Spaces.{cut_first, cut_rest}
use Rattle.rcv_dialogue.proofs.words.first.Goals as goal

pub returns-in-Some-clause-word : goal.returns-in-Some-clause-word
returns-in-Some-clause-word c =
    let text = c.args.text.now in
    let i = c.in-Some.space in
    let e = length-drop i text in
    cut_first text i (sym c.space_at.ensures ∙ c.in-Some.is)
    ∙ ap (λ (r : List ℕ). take i text ∷ left r) (sym (take_all (length text - i) (drop i text) (omega (arith, e))))

pub returns-in-None-clause-word : goal.returns-in-None-clause-word
returns-in-None-clause-word c =
    let text = c.args.text.now in
    let e = length-drop (length text) text in
    cut_rest text (sym c.space_at.ensures ∙ c.in-None.is)
    ∙ ap (λ (r : List ℕ). text ∷ left r) (sym (take_all (length text - length text) (drop (length text) text) (omega (arith, e))))
