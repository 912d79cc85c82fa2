-- The cells so far may not run.
use Rattle.std.proofs.Common.{◌<◌, ℕ, Option}
use Rattle.std.specs.Prelude.{slice_index_or}
use Rattle.rcv_role.specs.Cell.{CellView}
use Rattle.rcv_super.specs.Beside.{IsIdle}
use Rattle.rcv_super.proofs.beside.some_may_run.Given as goal

abbrev pub invariant-loop-role : goal.invariant-loop-role
invariant-loop-role l = (r : ℕ) (d : Option CellView) → r < l.role → IsIdle (slice_index_or l.half.items r d)
