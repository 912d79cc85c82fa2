-- A part without a bad letter has tokens.
use Rattle.rcv_found.proofs.Opening.{never_refused}
use Rattle.rcv_found.proofs.finding.find.Goals as goal

pub unreachable-requires : goal.unreachable-requires
unreachable-requires c =
    never_refused c.args.input.now c.args.part c.in-Err-Refused.field-0 c.in-Err-Refused.field-0-0 c.in-Err-Refused.field-0-is
    c.in-Err-Refused.ensures.tokens (c.bad_letter.ensures.tokens c.in_default.is)
