-- The table is the protocol's.
use Rattle.std.proofs.Common.{◌∙◌, ap, subst}
use Rattle.rcv_tree.specs.declared.protocol.Protocol.{Protocol}
use Rattle.rcv_model.specs.Text.{body_of}
use Rattle.rcv_model.specs.Places.{net_of}
use Rattle.rcv_tables.specs.Rows.{IsTable}
use Rattle.rcv_tables.specs.TableText.{table_text}
use Rattle.rcv_guide.specs.Guide.{net_for}
use Rattle.rcv_dialogue.specs.declared.answer.Answer.TheVariants as answer
use Rattle.rcv_guided.specs.Session.{SessionView, roles_in}
use Rattle.rcv_guided.specs.Hearing.{accepted_of}
use Rattle.rcv_guided.specs.Questions.{AnswersTable}
use Rattle.rcv_guided.proofs.Saying.{said_of_question}
use Rattle.rcv_guided.proofs.session.GuidedSession.say_table.Goals as goal

pub returns-in_default : goal.returns-in_default
returns-in_default c = said_of_question (accepted_of c.args.self.now) (AnswersTable c.args.self.now) answer.Memory c.args.text.now c.say_found.new.text c.say_found.result tt c.say_found.ensures

pub returns : goal.returns
returns c =
    said_of_question (accepted_of c.args.self.now) (AnswersTable c.args.self.now) (answer.Table c.lines_in.result c.as_slice-table.result) c.args.text.now c.say_found-2.new.text c.say_found-2.result
    (record {
      table = c.table.result.now;
      table_is = subst (λ (s : SessionView). IsTable (net_for s.guide) (roles_in s) c.table.result.now) c.self.view_is c.table.ensures;
      text_is =
          c.as_slice-table.ensures.value ∙ c.in-Ok.ensures
          ∙ ap (λ (p : Protocol). table_text (net_of (body_of p.body)) p.roles c.table.result.now) (c.accepted.ensures ∙ ap (λ (s : SessionView). s.guide.protocol) c.self.view_is);
      lines_are = c.lines_in.ensures;
    })
    c.say_found-2.ensures
