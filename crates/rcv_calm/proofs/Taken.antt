-- A text without its crash lines is taken as the session without them.
use Rattle.std.proofs.Common.{◌≡◌, ◌∙◌, ℕ, List, refl, sym, ap, subst}
use Rattle.rcv_tree.specs.Lists as tree
use Rattle.rcv_tree.specs.declared.module.Module.{Module}
use Rattle.rcv_session.specs.Session.{SessionView}
use Rattle.rcv_lexer.specs.Parts.{parts_of}
use Rattle.rcv_lexer.proofs.Once.{one_reading}
use Rattle.rcv_syntax.specs.Symbols as protocols
use Rattle.rcv_syntax.specs.Trees.{lines_of_calls}
use Rattle.rcv_reader.specs.Refusals as reader
use Rattle.rcv_script.specs.Symbols as scripts
use Rattle.rcv_script.specs.Refusals.{AreRead}
use Rattle.rcv_script.specs.Scripts.{messages_of}
use Rattle.rcv_plan.specs.Symbols as plans
use Rattle.rcv_plan.specs.Grammar.{plan_text}
use Rattle.rcv_plan.specs.Refusing as planning
use Rattle.rcv_input.specs.Input.{IsProtocolOf, AreScriptsOf, IsPlanOf}
use Rattle.rcv_transparent.specs.Calm.{without_crash_lines}
use Rattle.rcv_calm.specs.Without.{HaveSameProtocol, HaveSameScripts, HasPlanWithoutCrashLines}
use Rattle.rcv_calm.specs.Laws.{TextsWithoutCrashLinesAreCalm}
use Rattle.rcv_calm.proofs.Plans.{read_without}

module _ (text other : List ℕ) (session : SessionView) where
  protocol_of : IsProtocolOf text session.protocol → HaveSameProtocol text other → IsProtocolOf other session.protocol
  protocol_of is same =
      let symbols : protocols.symbols_of text is.tokens ≡ protocols.symbols_of other same.other_tokens =
      ap (protocols.symbols_of text) (one_reading.tokens text (parts_of text).protocol is.tokens same.tokens is.cut same.cut) ∙ same.same in
      let lines = lines_of_calls other same.other_tokens in
      let whole : Module = record { main = is.whole.main; others = is.whole.others; dos = lines } in
      let read = subst (λ (read : List protocols.Symbol). reader.AreReadAs read is.whole.main (tree.protocols is.whole.others)) symbols is.read.0 in
      let expanded = is.expanded in
      record {
        tokens = same.other_tokens;
        whole = whole;
        cut = same.other_cut;
        read = (read, refl);
        expanded = record {
          free = expanded.free;
          modules = expanded.modules;
          declared = expanded.declared;
          named = expanded.named;
          role_names = expanded.role_names;
          body = expanded.body;
        };
      }

  scripts_of : AreScriptsOf text session.protocol session.scripts → HaveSameScripts text other
      → AreScriptsOf other session.protocol session.scripts
  scripts_of are same =
      let symbols : scripts.symbols_of text are.tokens ≡ scripts.symbols_of other same.other_tokens =
      ap (scripts.symbols_of text) (one_reading.tokens text (parts_of text).scripts are.tokens same.tokens are.cut same.cut) ∙ same.same in
      record {
        tokens = same.other_tokens;
        cut = same.other_cut;
        read = subst (λ (read : List scripts.Symbol). AreRead session.protocol.roles (messages_of session.protocol) read session.scripts) symbols are.read;
      }

  plan_of : IsPlanOf text session.protocol session.plan → HasPlanWithoutCrashLines text other
      → IsPlanOf other session.protocol (without_crash_lines session.plan)
  plan_of is without =
      let symbols : plans.symbols_of text is.tokens ≡ plan_text without.items =
      ap (plans.symbols_of text) (one_reading.tokens text (parts_of text).plan is.tokens without.tokens is.cut without.cut) ∙ without.written in
      let read = read_without session.protocol.roles without.items session.plan (subst (λ (read : List plans.Symbol). planning.IsRead session.protocol.roles read session.plan) symbols is.read) in
      record {
        tokens = without.other_tokens;
        cut = without.other_cut;
        read = subst (λ (read : List plans.Symbol). planning.IsRead session.protocol.roles read (without_crash_lines session.plan)) (sym without.left) read;
      }

pub taken_without : TextsWithoutCrashLinesAreCalm
taken_without text other session taken without = record {
  protocol = record { text = protocol_of text other session taken.protocol.text without.same_protocol; accepted = taken.protocol.accepted };
  are_scripts = scripts_of text other session taken.are_scripts without.same_scripts;
  plan = plan_of text other session taken.plan without.plan;
}
