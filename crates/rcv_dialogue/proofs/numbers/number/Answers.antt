-- What is a number's text is read as that number.
use Rattle.std.proofs.Common.{◌∙◌, ap, decimal, sym, subst, true≢false}
use Rattle.std.specs.Str.{IsUtf8}
use Rattle.std.proofs.lemmas.Str.{IsUtf8-from_ascii}
use Rattle.std.proofs.lemmas.Fmt.{IsAscii-decimal, parse-decimal}
use Rattle.rcv_lines.proofs.Parses.{err_is_not_ok, ok_value}
use Rattle.rcv_dialogue.proofs.Numerals.{a_number, is_same, no_number, same_word}
use Rattle.rcv_dialogue.proofs.numbers.number.Goals as goal

pub returns-in_default : goal.returns-in_default
returns-in_default c = no_number c.args.word.now (λ n fits is. c.in_default.ensures.cases.0 (subst IsUtf8 (sym is) (IsUtf8-from_ascii (decimal n) (IsAscii-decimal n fits))))

pub returns-in_default-parse : goal.returns-in_default-parse
returns-in_default-parse c = no_number c.args.word.now (λ n fits is.
    let read = parse-decimal 64 n c.in-Ok.text.now c.parse.result fits fits (c.in-Ok.ensures.cases.0 ∙ is) c.parse.ensures.value.0 in
    err_is_not_ok c.parse.result n c.in_default-parse.field-0 c.in_default-parse.is read)

pub returns-then-is_written : goal.returns-then-is_written
returns-then-is_written c =
    a_number c.args.word.now c.in-Ok-parse.number c.is_written.ensures.fits
    (same_word c.args.word.now (decimal c.in-Ok-parse.number) (sym c.is_written.ensures.value ∙ c.if-is_written.true))

pub returns-else-is_written : goal.returns-else-is_written
returns-else-is_written c = no_number c.args.word.now (λ n fits is.
    let read = parse-decimal 64 n c.in-Ok.text.now c.parse.result fits fits (c.in-Ok.ensures.cases.0 ∙ is) c.parse.ensures.value.0 in
    let same = ok_value c.parse.result c.in-Ok-parse.number n c.in-Ok-parse.is read in
    let so = is_same c.args.word.now (decimal c.in-Ok-parse.number) (is ∙ ap decimal (sym same)) in
    true≢false (sym so ∙ sym c.is_written.ensures.value ∙ c.if-is_written.false))
