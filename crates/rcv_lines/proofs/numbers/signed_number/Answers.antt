-- What is a number's text is read as that number.
use Rattle.std.proofs.Common.{◌∙◌, ap, sym, subst}
use Rattle.std.specs.Fmt.{signed_decimal}
use Rattle.std.specs.Str.{IsUtf8}
use Rattle.std.proofs.lemmas.Str.{IsUtf8-from_ascii}
use Rattle.std.proofs.lemmas.Fmt.{IsAscii-signed, parse-signed_decimal}
use Rattle.std.proofs.Common.{of_z, to_z}
use Rattle.std.proofs.lemmas.Int.{to_z-of_z}
use mir.Syntax.{w64}
use Rattle.rcv_lines.proofs.Parses.{err_is_not_ok, ok_value, within}
use Rattle.rcv_lines.proofs.numbers.signed_number.Goals as goal

pub returns-in_default-clause-none : goal.returns-in_default-clause-none
returns-in_default-clause-none c = λ z fits is. c.in_default.ensures.cases.0 (subst IsUtf8 (sym is) (IsUtf8-from_ascii (signed_decimal z) (IsAscii-signed z (within z fits))))

pub returns-in_default-parse-clause-none : goal.returns-in_default-parse-clause-none
returns-in_default-parse-clause-none c = λ z fits is.
    let read = parse-signed_decimal w64 z c.in-Ok.text.now c.parse.result fits (within z fits) (c.in-Ok.ensures.cases.0 ∙ is) c.parse.ensures.value.0 in
    err_is_not_ok c.parse.result z c.in_default-parse.field-0 c.in_default-parse.is read

pub returns-else-is_signed_written-clause-none : goal.returns-else-is_signed_written-clause-none
returns-else-is_signed_written-clause-none c = λ z fits is.
    let read = parse-signed_decimal w64 z c.in-Ok.text.now c.parse.result fits (within z fits) (c.in-Ok.ensures.cases.0 ∙ is) c.parse.ensures.value.0 in
    let same = ok_value c.parse.result c.in-Ok-parse.number z c.in-Ok-parse.is read in
    c.is_signed_written.ensures.no c.if-is_signed_written.false (is ∙ ap signed_decimal (sym (ap (λ y. to_z w64 (of_z w64 y)) same ∙ to_z-of_z w64 z fits)))
