use Rattle.std.proofs.Common.{◌∙◌, sym}
use Rattle.rcv_plan.proofs.Found.{count_twice, count_taken}
use Rattle.rcv_plan.proofs.reader.Reader.count.Goals as goal

pub returns-then-has_crash-clause-goes : goal.returns-then-has_crash-clause-goes
returns-then-has_crash-clause-goes c =
    count_twice c.args.known.now c.args.role c.in-Some-in_range.number _ _ _ c.in-Some.ensures.some c.in-Some-in_range.ensures.some.0 c.in-Some-in_range.ensures.some.1 (sym c.has_crash.ensures ∙ c.if-has_crash.true)

pub returns-clause-goes : goal.returns-clause-goes
returns-clause-goes c =
    count_taken c.args.known.now c.args.role c.in-Some-in_range.number _ _ _ c.in-Some.ensures.some c.in-Some-in_range.ensures.some.0 c.in-Some-in_range.ensures.some.1 (sym c.has_crash.ensures ∙ c.if-has_crash.false)
