-- A number is written in one way.
use Rattle.std.proofs.Common.{◌∙◌, sym, arith}
use Rattle.rcv_lines.proofs.Fielded.{same_number}
use Rattle.rcv_lines.proofs.Parses.{none_from, some_from}
use Rattle.rcv_lines.proofs.Turns.{when_none}
use Rattle.rcv_lines.proofs.events.point.Goals as goal

pub returns-in_err-number-clause-none : goal.returns-in_err-number-clause-none
returns-in_err-number-clause-none c = when_none c.from_residual.result (λ p first last is. c.in_err-number.ensures.none p (omega (arith, last, c.count-count.ensures.fits)) is)

pub returns-clause-only : goal.returns-clause-only
returns-clause-only c = some_from c.point_within.result (λ p within q last is.
    same_number c.args.field.now q c.in_ok-number.number (omega (arith, last, c.count-count.ensures.fits)) within.1 is c.in_ok-number.ensures.some ∙ sym within.0) c.point_within.ensures.some

pub returns-clause-none : goal.returns-clause-none
returns-clause-none c = none_from c.point_within.result (λ none p first last is.
    let same = same_number c.args.field.now p c.in_ok-number.number (omega (arith, last, c.count-count.ensures.fits)) none.0 is c.in_ok-number.ensures.some in
    none.1 (omega (arith, same, first)) (omega (arith, same, last, c.count-count.ensures.value))) c.point_within.ensures.none
