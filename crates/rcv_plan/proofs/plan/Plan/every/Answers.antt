use Rattle.std.proofs.Common.{arith}
use Rattle.rcv_plan.proofs.Rows.{every_is_in}
use Rattle.rcv_plan.proofs.plan.Plan.every.Goals as goal

pub returns-in-Some-clause-first : goal.returns-in-Some-clause-first
returns-in-Some-clause-first c = let range = every_is_in 8 _ c.args.role c.said_of.ensures.fits in omega (arith, range.0, c.in-Some.ensures.some.every)

pub returns-in-Some-clause-last : goal.returns-in-Some-clause-last
returns-in-Some-clause-last c = let range = every_is_in 8 _ c.args.role c.said_of.ensures.fits in omega (arith, range.1, c.in-Some.ensures.some.every)
