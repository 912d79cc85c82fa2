-- By the fields.
use Rattle.std.proofs.Common.{◌∙◌, ◌++◌, ◌∷◌, [], ap, sym}
use Rattle.rcv_journal.specs.Recorded.{bare}
use Rattle.rcv_lines.specs.Cutting.{texts}
use Rattle.rcv_lines.specs.Said.{view_of}
use Rattle.rcv_lines.specs.declared.line.Line.{Line}
use Rattle.rcv_lines.proofs.Parses.{ok_both_from, ok_none_from}
use Rattle.rcv_lines.proofs.Texts.{said_text, text_said}
use Rattle.rcv_lines.proofs.line.read_line.Goals as goal

pub returns-clause-some : goal.returns-clause-some
returns-clause-some c =
    let text = c.in-Some.text.now in
    let cut = c.in-Some.ensures.cases.0 ∙ ap (λ b. text ++ b ∷ []) c.if-last-ne10.false in
    let fields = sym c.in_ok-fields.ensures ∙ ap texts (sym c.as_slice.ensures.value) in
    ok_both_from c.said.result (λ (said : Line) formed is. (formed, said_text (bare c.args.accepted.now.protocol) c.args.line.now text (view_of said) cut (fields ∙ is))) c.said.ensures.formed c.said.ensures.some

pub returns-clause-none : goal.returns-clause-none
returns-clause-none c =
    let text = c.in-Some.text.now in
    let cut = c.in-Some.ensures.cases.0 ∙ ap (λ b. text ++ b ∷ []) c.if-last-ne10.false in
    let fields = sym c.in_ok-fields.ensures ∙ ap texts (sym c.as_slice.ensures.value) in
    ok_none_from c.said.result (λ none v says. none v says.0 (sym fields ∙ text_said (bare c.args.accepted.now.protocol) c.protocol-protocol.ensures.accepted c.args.line.now text v cut says)) c.said.ensures.none
