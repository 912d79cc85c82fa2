-- The points are the protocol's.
use Rattle.std.proofs.Common.{refl, sym, subst}
use Rattle.std.specs.Prelude.{OnOk}
use Rattle.rcv_dialogue.specs.declared.answer.Answer.TheVariants as answer
use Rattle.rcv_dialogue.specs.declared.line.Question.{Question}
use Rattle.rcv_dialogue.specs.declared.line.Question.TheVariants as question
use Rattle.rcv_guided.specs.Hearing.{accepted_of}
use Rattle.rcv_guided.specs.Questions.{Asks}
use Rattle.rcv_guided.specs.Answers.{Says}
use Rattle.rcv_guided.proofs.Saying.{said_of_question}
use Rattle.rcv_guided.proofs.session.GuidedSession.say_asked.Goals as goal

pub returns-in-Points : goal.returns-in-Points
returns-in-Points c =
    subst (λ (q : Question). OnOk c.say_found.result (Says (accepted_of c.args.self.now) c.args.text.now c.say_found.new.text (Asks c.args.self.now q))) (sym c.in-Points.is)
    (said_of_question (accepted_of c.args.self.now) (Asks c.args.self.now question.Points) answer.Points c.args.text.now c.say_found.new.text c.say_found.result refl c.say_found.ensures)
