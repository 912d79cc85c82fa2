-- The answer to a line of a snapshot.
use Rattle.std.proofs.Common.{◌≡◌, ℕ, List, [], ◌++◌, inl, refl}
use Rattle.std.specs.Prelude.{Result, OnOk}
use Rattle.rcv_guide.proofs.Memories.{on_success}
use Rattle.rcv_dialogue.specs.declared.answer.Answer.{Answer}
use Rattle.rcv_dialogue.specs.declared.line.Again.{Again}
use Rattle.rcv_dialogue.specs.declared.line.Line.TheVariants as line
use Rattle.rcv_dialogue.specs.Answers.{answer_text}
use Rattle.rcv_guided.specs.Session.{SessionView}
use Rattle.rcv_guided.specs.Hearing.{accepted_of}
use Rattle.rcv_guided.specs.Restoring.{Restores}
use Rattle.rcv_guided.specs.Answers.{IsAnswer, Says}
use Rattle.rcv_guided.proofs.Saying.{says_by}

-- What was written is the answer to the line, which is no part of a history.
pub said_of_again : {T E : Type 0} (s new : SessionView) (told : Again) (said : Answer) (text after : List ℕ) (result : Result T E) → Restores s told said [] new
    → new.guide.protocol ≡ s.guide.protocol → OnOk result (after ≡ text ++ answer_text (accepted_of new) said)
    → OnOk result (Says (accepted_of s) text after (IsAnswer s (line.Again told) new))
said_of_again s new told said text after result comes same =
    on_success (after ≡ text ++ answer_text (accepted_of new) said) (Says (accepted_of s) text after (IsAnswer s (line.Again told) new)) result
    (says_by s new text after (IsAnswer s (line.Again told) new) said same (record { added = []; hears = record { judging = s; is = inl refl; comes = comes }; history = tt }))
