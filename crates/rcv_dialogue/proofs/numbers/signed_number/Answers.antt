-- What is a number's text is read as that number.
use Rattle.std.proofs.Common.{◌∙◌, sym, subst}
use Rattle.std.specs.Fmt.{signed_decimal}
use Rattle.std.specs.Str.{IsUtf8}
use Rattle.std.proofs.lemmas.Str.{IsUtf8-from_ascii}
use Rattle.std.proofs.lemmas.Fmt.{IsAscii-signed, parse-signed_decimal}
use mir.Syntax.{w64}
use Rattle.rcv_lines.proofs.Parses.{err_is_not_ok}
use Rattle.rcv_dialogue.proofs.Numerals.{is_within, no_signed}
use Rattle.rcv_dialogue.proofs.numbers.signed_number.Goals as goal

pub returns-in_default : goal.returns-in_default
returns-in_default c = no_signed c.args.word.now (λ z fits is. c.in_default.ensures.cases.0 (subst IsUtf8 (sym is) (IsUtf8-from_ascii (signed_decimal z) (IsAscii-signed z fits))))

pub returns-in_default-parse : goal.returns-in_default-parse
returns-in_default-parse c = no_signed c.args.word.now (λ z fits is.
    let read = parse-signed_decimal w64 z c.in-Ok.text.now c.parse.result (is_within z fits) fits (c.in-Ok.ensures.cases.0 ∙ is) c.parse.ensures.value.0 in
    err_is_not_ok c.parse.result z c.in_default-parse.field-0 c.in_default-parse.is read)
