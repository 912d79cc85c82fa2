-- Its state, and its incarnation.
use Rattle.std.proofs.Common.{◌≡◌, ◌<◌, length, get_or, ◌∙◌, ap, arith}
use Rattle.std.proofs.lemmas.List.{get_or_default}
use Rattle.rcv_dialogue.specs.declared.answer.Answer.TheVariants as answer
use Rattle.rcv_guided.specs.Session.{SessionView, roles_in, incarnation_of}
use Rattle.rcv_guided.specs.Hearing.{accepted_of}
use Rattle.rcv_guided.specs.Questions.{AnswersRole}
use Rattle.rcv_guided.proofs.Saying.{said_of_question}
use Rattle.rcv_guided.proofs.session.GuidedSession.say_role.Goals as goal

pub returns : goal.returns
returns c =
    let lt : c.args.role < length c.self.inside.incarnations.items =
    (let all = c.self.invariant.incarnations in let roles = ap (λ (s : SessionView). roles_in s) c.self.view_is in let declared = c.requires in omega (arith, all, roles, declared)) in
    let same : c.index-incarnation.result.now ≡ incarnation_of c.args.self.now c.args.role =
    c.index-incarnation.ensures ∙ ap (λ q. get_or c.self.inside.incarnations.items q c.index-incarnation.result.now) c.role.view_is
    ∙ get_or_default c.self.inside.incarnations.items c.args.role c.index-incarnation.result.now 0 lt ∙ ap (λ (s : SessionView). incarnation_of s c.args.role) c.self.view_is in
    said_of_question (accepted_of c.args.self.now) (AnswersRole c.args.self.now c.args.role) (answer.Role c.role_state-own.result c.index-incarnation.result.now) c.args.text.now c.say_found.new.text c.say_found.result
    (c.role_state-own.ensures, same) c.say_found.ensures
