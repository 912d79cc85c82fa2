-- Answers to lines that ask.
use Rattle.std.proofs.Common.{◌≡◌, ℕ, List, []}
use Rattle.std.specs.Prelude.{Result, OnOk}
use Rattle.rcv_guide.proofs.Memories.{on_success}
use Rattle.rcv_dialogue.specs.declared.line.Line.TheVariants as line
use Rattle.rcv_dialogue.specs.declared.line.Question.{Question}
use Rattle.rcv_guided.specs.Session.{SessionView}
use Rattle.rcv_guided.specs.Histories.{GoesOnBy}
use Rattle.rcv_guided.specs.Hearing.{accepted_of}
use Rattle.rcv_guided.specs.Questions.{Asks}
use Rattle.rcv_guided.specs.Answers.{IsJudging, IsAnswer, Says}
use Rattle.rcv_guided.proofs.Saying.{unchanged_by, answer_by, answer_in, says_so, says_by}

-- The answer to a question is that to its line, which changes nothing.
pub said_of_asking : {T E : Type 0} (s : SessionView) (asked : Question) (text after : List ℕ) (result : Result T E) → OnOk result (Says (accepted_of s) text after (Asks s asked))
    → OnOk result (Says (accepted_of s) text after (IsAnswer s (line.Ask asked) s))
said_of_asking s asked text after result =
    on_success (Says (accepted_of s) text after (Asks s asked)) (Says (accepted_of s) text after (IsAnswer s (line.Ask asked) s)) result
    (says_so (accepted_of s) text after (Asks s asked) (IsAnswer s (line.Ask asked) s)
    (λ said asks. answer_in s s (line.Ask asked) said (unchanged_by s (line.Ask asked) said (λ added new same. (asks, same)))))

-- The same where some of what is stable is forgotten before.
pub said_of_asking_behind : {T E : Type 0} (old s : SessionView) (asked : Question) (text after : List ℕ) (result : Result T E) → IsJudging old s → GoesOnBy old [] s
    → s.guide.protocol ≡ old.guide.protocol → OnOk result (Says (accepted_of s) text after (Asks s asked))
    → OnOk result (Says (accepted_of old) text after (IsAnswer old (line.Ask asked) s))
said_of_asking_behind old s asked text after result judging history protocol =
    on_success (Says (accepted_of s) text after (Asks s asked)) (Says (accepted_of old) text after (IsAnswer old (line.Ask asked) s)) result
    (λ it. says_by old s text after (IsAnswer old (line.Ask asked) s) it.answer protocol
    (answer_by old s s (line.Ask asked) it.answer judging history (unchanged_by s (line.Ask asked) it.answer (λ added new same. (it.is, same)))) it.text)
