-- The lines so far are answered, and none of them ends the dialogue.
use Rattle.std.proofs.Common.{ℕ, List}
use Rattle.rcv_pipe.specs.Pipe.{Waits}
use Rattle.rcv_talk.specs.Answering.{AnswersHeld}
use Rattle.rcv_talk.specs.declared.answers.Next.TheVariants.{Written}
use Rattle.rcv_talk.proofs.answers.answer_held.Given as goal

abbrev pub invariant-loop : goal.invariant-loop
invariant-loop l =
    (bytes : List ℕ) → Waits l.initial.pipe bytes → AnswersHeld l.initial.session bytes l.initial.text l.text l.session l.pipe Written
