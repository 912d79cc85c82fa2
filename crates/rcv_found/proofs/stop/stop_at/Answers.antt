-- Numbered tokens are read as the tokens are.
use Rattle.std.proofs.Common.{◌≡◌, List, length, sym, ◌∙◌, subst}
use Rattle.std.specs.List.{All}
use Rattle.rcv_tree.specs.declared.refusal.Refusal.TheVariants as refusals
use Rattle.rcv_lexer.specs.declared.token.Token.{Token}
use Rattle.rcv_tree.specs.declared.refusal.TextError.TheVariants as errors
use Rattle.rcv_lexer.specs.Parts.{LiesIn}
use Rattle.rcv_found.specs.Seen.{grammar_in}
use Rattle.rcv_found.specs.Stops.{IsTakenBy, IsRefusedBy}
use Rattle.rcv_found.proofs.Numbering.{all_lie, first_of, taken_of}
use Rattle.rcv_found.proofs.stop.stop_at.Goals as goal

pub read-requires : goal.read-requires
read-requires c = subst (All (λ (t : Token). LiesIn c.args.bundle.now t.span)) (sym (c.as_slice.ensures.value ∙ c.in_ok-tokens.ensures))
    (all_lie c.args.bundle.now 0 c.args.list.now c.requires.inside)

pub returns-in-Ok : goal.returns-in-Ok
returns-in-Ok c = taken_of (grammar_in c.args.grammar.now) c.args.bundle.now c.args.list.now
    (subst (IsTakenBy (grammar_in c.args.grammar.now) c.args.bundle.now) (c.as_slice.ensures.value ∙ c.in_ok-tokens.ensures) c.in-Ok.ensures)

pub returns-in-Err-Refused-Text : goal.returns-in-Err-Refused-Text
returns-in-Err-Refused-Text c =
    let g = grammar_in c.args.grammar.now in
    let a = c.in-Err-Refused-Text.field-0-is in
    let b = c.in-Err-Refused-Text.field-0-0-is in
    let d = c.in-Err-Refused-Text.code-is in
    let f = c.in-Err-Refused-Text.line-is in
    let e : c.in-Err-Refused-Text.field-0 ≡ errors.Refused (refusals.Text c.in-Err-Refused-Text.code c.in-Err-Refused-Text.line) = cc in
    first_of g c.args.bundle.now c.args.list.now c.in-Err-Refused-Text.code c.in-Err-Refused-Text.line
    (subst (λ (ts : List Token). IsRefusedBy g c.args.bundle.now ts (length c.args.list.now)
    (errors.Refused (refusals.Text c.in-Err-Refused-Text.code c.in-Err-Refused-Text.line))) (c.as_slice.ensures.value ∙ c.in_ok-tokens.ensures)
    (subst (IsRefusedBy g c.args.bundle.now c.as_slice.result.now (length c.args.list.now)) e c.in-Err-Refused-Text.ensures))
