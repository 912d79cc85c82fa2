-- The tokens before the stop.
use Rattle.std.proofs.Common.{sym, subst}
use Rattle.std.specs.List.{All}
use Rattle.rcv_lexer.specs.declared.token.Token.{Token}
use Rattle.rcv_lexer.specs.Parts.{LiesIn}
use Rattle.rcv_found.proofs.Little.{all_before}
use Rattle.rcv_found.proofs.wrong.wrong_at.Goals as goal

pub may_at-requires-clause-inside : goal.may_at-requires-clause-inside
may_at-requires-clause-inside c = subst (All (λ (t : Token). LiesIn c.args.bundle.now t.span)) (sym c.front_of.ensures)
    (all_before (λ (t : Token). LiesIn c.args.bundle.now t.span) _ c.args.list.now c.requires.inside)
