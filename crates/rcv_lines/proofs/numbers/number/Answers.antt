-- What is a number's text is read as that number.
use Rattle.std.proofs.Common.{◌∙◌, ap, decimal, sym, subst}
use Rattle.std.specs.Str.{IsUtf8}
use Rattle.std.proofs.lemmas.Str.{IsUtf8-from_ascii}
use Rattle.std.proofs.lemmas.Fmt.{IsAscii-decimal, parse-decimal}
use Rattle.rcv_lines.proofs.Parses.{err_is_not_ok, ok_value}
use Rattle.rcv_lines.proofs.numbers.number.Goals as goal

pub returns-in_default-clause-none : goal.returns-in_default-clause-none
returns-in_default-clause-none c = λ n fits is. c.in_default.ensures.cases.0 (subst IsUtf8 (sym is) (IsUtf8-from_ascii (decimal n) (IsAscii-decimal n fits)))

pub returns-in_default-parse-clause-none : goal.returns-in_default-parse-clause-none
returns-in_default-parse-clause-none c = λ n fits is.
    let read = parse-decimal 64 n c.in-Ok.text.now c.parse.result fits fits (c.in-Ok.ensures.cases.0 ∙ is) c.parse.ensures.value.0 in
    err_is_not_ok c.parse.result n c.in_default-parse.field-0 c.in_default-parse.is read

pub returns-else-is_written-clause-none : goal.returns-else-is_written-clause-none
returns-else-is_written-clause-none c = λ n fits is.
    let read = parse-decimal 64 n c.in-Ok.text.now c.parse.result fits fits (c.in-Ok.ensures.cases.0 ∙ is) c.parse.ensures.value.0 in
    let same = ok_value c.parse.result c.in-Ok-parse.number n c.in-Ok-parse.is read in
    c.is_written.ensures.no c.if-is_written.false (is ∙ ap decimal (sym same))
