-- Its words, one behind the other.
use Rattle.std.proofs.Common.{◌≡◌, ◌++◌, ◌∙◌, ℕ, List, sym, ap, subst, append_assoc, codes, decimal}
use Rattle.std.specs.Prelude.{OnOk}
use Rattle.rcv_dialogue.specs.Answers.{cause_text}
use Rattle.rcv_dialogue.proofs.write.cause.Goals as goal

pub returns-in_ok-word-in-Incarnation : goal.returns-in_ok-word-in-Incarnation
returns-in_ok-word-in-Incarnation c =
    let n = c.in-Incarnation.incarnation in
    let text = c.args.text.now in
    subst (λ (t : List ℕ). OnOk c.large_number.result (c.large_number.new.self ≡ t))
    (ap (λ (m : List ℕ). m ++ decimal n) c.in_ok-word-in-Incarnation.ensures.ok ∙ append_assoc text (codes " incarnation ") (decimal n)
    ∙ ap (λ w. text ++ cause_text c.args.accepted.now w) (sym c.in-Incarnation.is))
    c.large_number.ensures.ok

pub returns-in-Empty : goal.returns-in-Empty
returns-in-Empty c =
    subst (λ (t : List ℕ). OnOk c.word-in-Empty.result (c.word-in-Empty.new.self ≡ t)) (ap (λ w. c.args.text.now ++ cause_text c.args.accepted.now w) (sym c.in-Empty.is)) c.word-in-Empty.ensures.ok
