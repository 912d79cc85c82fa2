use Rattle.rcv_do.specs.Rows.{IsLeast}
use Rattle.rcv_do.proofs.reach.least.Given as goal

abbrev pub invariant-loop-place : goal.invariant-loop-place
invariant-loop-place l = IsLeast l.rows l.listed l.place l.found
