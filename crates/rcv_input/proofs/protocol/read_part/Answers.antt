-- A bad letter, the reader's refusal, that of a call, or a protocol with the origins of its points.
use Rattle.std.proofs.Common.{List, subst}
use Rattle.std.proofs.lemmas.Result.{err_from_is_err_and}
use Rattle.rcv_lexer.specs.declared.token.Token.{Token}
use Rattle.rcv_lexer.specs.Tokens as lexer
use Rattle.rcv_reader.specs.Refusals as reader
use Rattle.rcv_grammar.proofs.Formed.{read_modules_have_form}
use Rattle.rcv_input.proofs.Reading.{by_letter, by_reader, by_call, text_read, origins_read}
use Rattle.rcv_input.proofs.protocol.read_part.Goals as goal

pub returns-in_err-list-clause-read : goal.returns-in_err-list-clause-read
returns-in_err-list-clause-read c =
    let p = err_from_is_err_and c.from_residual.result c.from_residual.ensures.1 in
    rw (p.1, p.2) (by_letter c.args.input.now c.in_err-list.field-0.0 (subst (λ part. lexer.IsRefused c.args.input.now part c.in_err-list.field-0.0) c.requires.part c.in_err-list.ensures.tokens))

pub returns-in_err-whole-clause-read : goal.returns-in_err-whole-clause-read
returns-in_err-whole-clause-read c =
    let p = err_from_is_err_and c.from_residual-in_err-whole.result c.from_residual-in_err-whole.ensures.1 in
    let refused = subst (λ (ts : List Token). reader.IsRefused c.args.input.now ts c.line_at-last.result c.in_err-whole.field-0.0) c.as_slice.ensures.value c.in_err-whole.ensures.read in
    rw (p.1, p.2) (by_reader c.args.input.now c.in_ok-list.list.items c.in_err-whole.field-0.0 c.args.part c.line_at-last.result c.requires.part c.line_at-last.ensures c.in_ok-list.ensures.tokens refused)

pub expand_traced-requires : goal.expand_traced-requires
expand_traced-requires c =
    let read = subst (λ (ts : List Token). reader.IsRead c.args.input.now ts c.in_ok-whole.whole) c.as_slice.ensures.value c.in_ok-whole.ensures.read in
    read_modules_have_form c.args.input.now c.args.part c.in_ok-list.list.items c.in_ok-whole.whole c.in_ok-list.ensures.tokens read

pub returns-in_err-protocol-clause-read : goal.returns-in_err-protocol-clause-read
returns-in_err-protocol-clause-read c =
    let p = err_from_is_err_and c.from_residual-in_err-protocol.result c.from_residual-in_err-protocol.ensures.1 in
    let read = subst (λ (ts : List Token). reader.IsRead c.args.input.now ts c.in_ok-whole.whole) c.as_slice.ensures.value c.in_ok-whole.ensures.read in
    rw (p.1, p.2) (by_call c.args.input.now c.in_ok-list.list.items c.in_ok-whole.whole c.in_err-protocol.field-0.0 c.args.part c.requires.part c.in_ok-list.ensures.tokens read c.in_err-protocol.ensures.answer)

pub returns-clause-read : goal.returns-clause-read
returns-clause-read c =
    let read = subst (λ (ts : List Token). reader.IsRead c.args.input.now ts c.in_ok-whole.whole) c.as_slice.ensures.value c.in_ok-whole.ensures.read in
    text_read c.args.input.now c.in_ok-list.list.items c.in_ok-whole.whole c.in_ok-protocol.protocol c.args.part c.requires.part c.in_ok-list.ensures.tokens read c.in_ok-protocol.ensures.answer

pub returns-clause-origins : goal.returns-clause-origins
returns-clause-origins c =
    let read = subst (λ (ts : List Token). reader.IsRead c.args.input.now ts c.in_ok-whole.whole) c.as_slice.ensures.value c.in_ok-whole.ensures.read in
    origins_read c.args.input.now c.in_ok-list.list.items c.in_ok-whole.whole c.in_ok-protocol.origins c.args.part c.requires.part c.in_ok-list.ensures.tokens read c.in_ok-protocol.ensures.origins
