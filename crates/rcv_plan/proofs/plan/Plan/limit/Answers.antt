use Rattle.std.proofs.Common.{arith}
use Rattle.rcv_plan.proofs.Rows.{limit_is_in}
use Rattle.rcv_plan.proofs.plan.Plan.limit.Goals as goal

pub returns-clause-first : goal.returns-clause-first
returns-clause-first c = let range = limit_is_in _ _ c.self.invariant.fits in omega (arith, range.0, c.self.invariant.limit_is)

pub returns-clause-last : goal.returns-clause-last
returns-clause-last c = let range = limit_is_in _ _ c.self.invariant.fits in omega (arith, range.1, c.self.invariant.limit_is)
