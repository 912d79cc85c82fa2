-- Three pieces.
use Rattle.std.proofs.Common.{◌≡◌, ◌++◌, List, ℕ, ◌∙◌, subst, OnOk, codes}
use Rattle.std.specs.Fmt.{decimal}
use Rattle.rcv_losses.proofs.Saying.{push_right}
use Rattle.rcv_heat.proofs.words.write_sampled.Goals as goal

pub returns : goal.returns
returns c =
    let number = push_right c.word.new.self c.large_number.new.self (decimal c.args.step) (codes " counts)") c.in_ok-large_number.ensures.ok in
    let word = push_right c.args.text.now c.word.new.self (codes " (sampled: every ") (decimal c.args.step ++ codes " counts)") c.in_ok-word.ensures.ok in
    subst (λ (l : List ℕ). OnOk c.word-2.result (c.word-2.new.self ≡ l)) (number ∙ word) c.word-2.ensures.ok
