use Rattle.std.proofs.Common.{◌≡◌, length, take}
use Rattle.rcv_merge.specs.Merge.{lent_logs}
use Rattle.rcv_cells.specs.Home.{logs_in}
use Rattle.rcv_cells.proofs.merging.merge_logs.Given as goal

abbrev pub invariant-loop-role : goal.invariant-loop-role
invariant-loop-role l = (length l.logs ≡ 8) × (lent_logs (take l.role l.logs) ≡ logs_in (take l.role l.lanes))
