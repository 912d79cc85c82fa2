-- The role is down, or it is up, and this is next.
use Rattle.std.proofs.Common.{◌≡◌, false, Some, refl, ◌∙◌, ap, subst}
use Rattle.rcv_dialogue.specs.declared.answer.Answer.TheVariants as answer
use Rattle.rcv_guided.specs.Session.{SessionView}
use Rattle.rcv_guided.specs.Hearing.{accepted_of, IsUp, IsDown}
use Rattle.rcv_guided.specs.Questions.{AnswersNext}
use Rattle.rcv_guided.proofs.Saying.{said_of_question}
use Rattle.rcv_guided.proofs.session.GuidedSession.say_next.Goals as goal

pub returns-then-is_down : goal.returns-then-is_down
returns-then-is_down c =
    said_of_question (accepted_of c.args.self.now) (AnswersNext c.args.self.now c.args.role) (answer.NextDown c.args.role) c.args.text.now c.say_found.new.text c.say_found.result
    (refl, subst (λ (s : SessionView). IsDown s c.args.role) c.self.view_is (c.is_down.ensures ∙ ap Some c.if-is_down.true)) c.say_found.ensures

pub returns : goal.returns
returns c =
    let calm : c.is_down.result ≡ false = (let f = c.if-is_down.false in cc) in
    said_of_question (accepted_of c.args.self.now) (AnswersNext c.args.self.now c.args.role) (answer.Next c.args.role c.turn-turn.result) c.args.text.now c.say_found-2.new.text c.say_found-2.result
    (refl, subst (λ (s : SessionView). IsUp s c.args.role) c.self.view_is (c.is_down.ensures ∙ ap Some calm), c.turn-turn.ensures) c.say_found-2.ensures
