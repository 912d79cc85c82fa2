use Rattle.std.proofs.Common.{◌≡◌, ◌+◌, length}
use Rattle.std.specs.Prelude.{slice_index}
use Rattle.std.specs.List.{sum_by, range_with_len}
use Rattle.rcv_ledger.specs.Logs.{log_at}
use Rattle.rcv_guide.proofs.failing.undone.Given as goal

abbrev pub invariant-loop-role : goal.invariant-loop-role
invariant-loop-role l =
    l.undone + sum_by (λ r. slice_index l.counts r) (range_with_len 0 l.role)
    ≡ sum_by (λ r. length (log_at l.ledger.logs r)) (range_with_len 0 l.role)
