-- What is read is what the text says.
use Rattle.std.proofs.Common.{◌∙◌, Ok, sym, ap}
use Rattle.rcv_lines.proofs.Parses.{err_is_not_ok}
use Rattle.rcv_dialogue.specs.declared.line.Line.{Line}
use Rattle.rcv_dialogue.specs.Reading.{reading}
use Rattle.rcv_dialogue.proofs.Texts.{found, ok_only, only}
use Rattle.rcv_dialogue.proofs.read.read.Goals as goal

pub returns-in-Ok-clause-found : goal.returns-in-Ok-clause-found
returns-in-Ok-clause-found c =
    found c.args.accepted.now c.protocol-protocol.ensures.accepted c.args.text.now c.in-Ok.line c.whole.ensures.short (sym c.in-Ok.is ∙ c.whole.ensures.value)

pub returns-in-Ok-clause-only : goal.returns-in-Ok-clause-only
returns-in-Ok-clause-only c = λ l says.
    ap (λ (x : Line). Ok x) (ok_only c.args.accepted.now c.protocol-protocol.ensures.accepted c.args.text.now c.in-Ok.line l (sym c.in-Ok.is ∙ c.whole.ensures.value) says)

pub returns-in-Err-clause-only : goal.returns-in-Err-clause-only
returns-in-Err-clause-only c = λ l says.
    absurd (err_is_not_ok (reading c.args.accepted.now c.args.text.now) l c.in-Err.wrong (sym c.whole.ensures.value ∙ c.in-Err.is) (only c.args.accepted.now c.protocol-protocol.ensures.accepted c.args.text.now l says))
