-- The answer is all of the text.
use Rattle.std.proofs.Common.{◌∙◌, ◌++◌, List, ℕ, ap}
use Rattle.rcv_dialogue.specs.Answers.{answer_text}
use Rattle.rcv_guided.specs.Hearing.{accepted_of}
use Rattle.rcv_c.proofs.tell.answer.Goals as goal

pub returns : goal.returns
returns c =
    let a = c.in_ok-answer_line.ensures in
    record {
      said = a.said;
      added = a.added;
      told = a.told;
      answer = c.finish.ensures ∙ a.text ∙ ap (λ (t : List ℕ). t ++ answer_text (accepted_of c.args.held.now.session) a.said) c.new-text.ensures;
    }
