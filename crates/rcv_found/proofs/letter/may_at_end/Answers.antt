-- What may stand where the part ends, by its tokens.
use Rattle.std.proofs.Common.{sym, subst, arith}
use Rattle.rcv_lexer.specs.Tokens.{AreTokens}
use Rattle.rcv_found.specs.Seen.{grammar_in}
use Rattle.rcv_found.proofs.Counting.{few_tokens}
use Rattle.rcv_found.proofs.Opening.{placed_for_all, placed_for_none}
use Rattle.rcv_found.proofs.letter.may_at_end.Goals as goal

pub may_after-requires-clause-few : goal.may_after-requires-clause-few
may_after-requires-clause-few c =
    let are = subst (AreTokens c.args.input.now c.args.front) (sym c.as_slice.ensures.value) c.in-Ok.ensures.tokens in
    let few = few_tokens c.args.input.now c.args.front c.as_slice.result.now are in
    let short = c.requires.short in
    omega (arith, few, short)

pub returns-in-Ok : goal.returns-in-Ok
returns-in-Ok c =
    placed_for_all (λ v. v.items) c.may_after.result (grammar_in c.args.grammar.now) c.args.input.now c.args.front c.as_slice.result.now
    (subst (AreTokens c.args.input.now c.args.front) (sym c.as_slice.ensures.value) c.in-Ok.ensures.tokens) c.may_after.ensures

pub returns-in-Err-Refused : goal.returns-in-Err-Refused
returns-in-Err-Refused c =
    placed_for_none (grammar_in c.args.grammar.now) c.args.input.now c.args.front c.new.result.items c.in-Err-Refused.field-0
    c.in-Err-Refused.field-0-0 c.in-Err-Refused.field-0-is c.in-Err-Refused.ensures.tokens
