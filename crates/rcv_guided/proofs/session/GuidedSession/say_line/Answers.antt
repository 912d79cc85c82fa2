-- Each declared role is listed.
use Rattle.std.proofs.Common.{◌≡◌, ◌∙◌, List, take, sym, ap, subst, arith}
use Rattle.std.specs.Prelude.{All, slice_index}
use Rattle.std.specs.List.{range_with_len}
use Rattle.rcv_dialogue.specs.declared.few.Kept.{Kept}
use Rattle.rcv_dialogue.specs.declared.answer.Answer.TheVariants as answer
use Rattle.rcv_dialogue.specs.Answers.{HasRole}
use Rattle.rcv_guided.specs.Session.{SessionView, roles_in}
use Rattle.rcv_guided.specs.Hearing.{accepted_of}
use Rattle.rcv_guided.specs.Counts.{with_counts}
use Rattle.rcv_guided.specs.Questions.{AnswersLine}
use Rattle.rcv_guided.proofs.Listed.{each}
use Rattle.rcv_guided.proofs.Saying.{said_of_question}
use Rattle.rcv_guided.proofs.session.GuidedSession.say_line.Goals as goal

pub say_found-requires : goal.say_found-requires
say_found-requires c =
    let roles : c.roles-roles.result ≡ roles_in c.args.self.now = c.roles-roles.ensures.value ∙ ap (λ (s : SessionView). roles_in s) c.self.view_is in
    let named : All (HasRole (accepted_of c.args.self.now)) (take c.roles-roles.result c.listed-stable.result) =
    subst (λ (l : List Kept). All (HasRole (accepted_of c.args.self.now)) l) (sym c.listed-stable.ensures)
    (each (HasRole (accepted_of c.args.self.now)) (λ r. record { role = r; count = slice_index c.stable.result r }) 0 c.roles-roles.result (λ r lt. omega (arith, lt, roles))) in
    named

pub returns : goal.returns
returns c =
    let roles : c.roles-roles.result ≡ roles_in c.args.self.now = c.roles-roles.ensures.value ∙ ap (λ (s : SessionView). roles_in s) c.self.view_is in
    said_of_question (accepted_of c.args.self.now) (AnswersLine c.args.self.now) (answer.Line (record { ref_ptr = c.args.self.ref_ptr; now = take c.roles-roles.result c.listed-stable.result })) c.args.text.now c.say_found.new.text c.say_found.result
    (record {
      stable = c.stable.result;
      are = c.stable.ensures;
      listed_are = c.listed-stable.ensures ∙ ap (λ n. with_counts (slice_index c.stable.result) (range_with_len 0 n)) roles;
    })
    c.say_found.ensures
