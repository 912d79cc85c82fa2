-- A number is written in one way.
use Rattle.rcv_lines.proofs.Parses.{none_from, too_long}
use Rattle.rcv_lines.proofs.numbers.short_number.Goals as goal

pub returns-clause-none : goal.returns-clause-none
returns-clause-none c = none_from c.short.result (λ long n fits is. too_long c.args.field.now c.in_ok-number.field-0 n long.1 c.in_ok-number.ensures.some long.0 fits is) c.short.ensures.none
