-- Each declared role is listed.
use Rattle.std.proofs.Common.{◌≡◌, take, sym, ◌∙◌, ap, subst}
use Rattle.rcv_dialogue.specs.declared.answer.Answer.TheVariants as answer
use Rattle.rcv_guided.specs.Session.{SessionView, roles_in}
use Rattle.rcv_guided.specs.Hearing.{accepted_of}
use Rattle.rcv_guided.specs.Questions.{AreStates, AnswersEnd}
use Rattle.rcv_guided.proofs.Saying.{said_of_question}
use Rattle.rcv_guided.proofs.session.GuidedSession.say_end.Goals as goal

pub returns : goal.returns
returns c =
    let roles : c.roles.result ≡ roles_in c.args.self.now = c.roles.ensures.value ∙ ap (λ (s : SessionView). roles_in s) c.self.view_is in
    said_of_question (accepted_of c.args.self.now) (AnswersEnd c.args.self.now) (answer.End (record { ref_ptr = c.args.self.ref_ptr; now = take c.roles.result c.states-states.result })) c.args.text.now c.say_found.new.text c.say_found.result
    (subst (λ n. AreStates c.args.self.now (take n c.states-states.result)) (sym roles) c.states-states.ensures) c.say_found.ensures
