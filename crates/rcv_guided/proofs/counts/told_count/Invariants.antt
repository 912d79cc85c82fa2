-- It is told by those that are left.
use Rattle.std.proofs.Common.{◌≡◌, drop}
use Rattle.rcv_guided.specs.Failures.{told_count}
use Rattle.rcv_guided.proofs.counts.told_count.Given as goal

abbrev pub invariant-loop-one : goal.invariant-loop-one
invariant-loop-one l = told_count l.failed l.role ≡ told_count (drop l.one-index l.failed) l.role
