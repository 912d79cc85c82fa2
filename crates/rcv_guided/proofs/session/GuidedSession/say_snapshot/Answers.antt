-- What was found is answered.
use Rattle.std.proofs.Common.{List, sym, subst}
use Rattle.rcv_dialogue.specs.declared.line.Again.{Again}
use Rattle.rcv_dialogue.specs.declared.answer.Answer.TheVariants as answer
use Rattle.rcv_guided.specs.Hearing.{accepted_of}
use Rattle.rcv_guided.specs.Restoring.{AreSnapshot}
use Rattle.rcv_guided.specs.Questions.{AnswersSnapshot}
use Rattle.rcv_guided.proofs.Saying.{said_of_question}
use Rattle.rcv_guided.proofs.session.GuidedSession.say_snapshot.Goals as goal

pub returns-in-Ok : goal.returns-in-Ok
returns-in-Ok c =
    said_of_question (accepted_of c.args.self.now) (AnswersSnapshot c.args.self.now) (answer.Snapshot c.as_slice.result) c.args.text.now c.say_found.new.text c.say_found.result
    (subst (λ (l : List Again). AreSnapshot c.args.self.now l) (sym c.as_slice.ensures.value) c.in-Ok.ensures.value) c.say_found.ensures

pub returns-in-Err : goal.returns-in-Err
returns-in-Err c = said_of_question (accepted_of c.args.self.now) (AnswersSnapshot c.args.self.now) answer.Memory c.args.text.now c.say_found-in-Err.new.text c.say_found-in-Err.result tt c.say_found-in-Err.ensures
