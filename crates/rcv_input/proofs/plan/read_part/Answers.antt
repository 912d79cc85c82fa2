-- A bad letter, the plan's refusal, or a plan.
use Rattle.std.proofs.Common.{List, subst}
use Rattle.std.specs.Prelude.{MatchResult}
use Rattle.std.proofs.lemmas.Result.{err_from_is_err_and}
use Rattle.rcv_lexer.specs.declared.token.Token.{Token}
use Rattle.rcv_lexer.specs.Tokens as lexer
use Rattle.rcv_plan.specs.Symbols.{symbols_of}
use Rattle.rcv_plan.specs.Refusing.{IsRead, IsRefused}
use Rattle.rcv_input.proofs.Reading.{by_plan_letter, plan_read}
use Rattle.rcv_input.proofs.plan.read_part.Goals as goal

pub returns-in_err-list-clause-read : goal.returns-in_err-list-clause-read
returns-in_err-list-clause-read c =
    let p = err_from_is_err_and c.from_residual.result c.from_residual.ensures.1 in
    rw (p.1, p.2) (by_plan_letter c.args.input.now c.args.accepted.now.protocol c.in_err-list.field-0.0 (subst (λ part. lexer.IsRefused c.args.input.now part c.in_err-list.field-0.0) c.requires.part c.in_err-list.ensures.tokens))

pub returns-clause-read : goal.returns-clause-read
returns-clause-read c =
    plan_read c.args.input.now c.args.accepted.now.protocol c.in_ok-list.list.items c.args.part c.line_at-last.result c.read_plan.result c.requires.part c.line_at-last.ensures c.in_ok-list.ensures.tokens
    (subst (λ (ts : List Token). MatchResult c.read_plan.result (IsRead c.args.accepted.now.protocol.roles (symbols_of c.args.input.now ts)) (IsRefused c.args.input.now ts c.line_at-last.result c.args.accepted.now.protocol.roles)) c.as_slice.ensures.value c.read_plan.ensures.read)
