use Rattle.std.proofs.Common.{length}
use Rattle.std.specs.Prelude.{slice_index}
use Rattle.rcv_ledger.specs.Logs.{log_at}
use Rattle.rcv_guide.specs.Numbers.{back_from}
use Rattle.rcv_guide.proofs.Filling.{Goes}
use Rattle.rcv_guide.proofs.numbers.go_back.Given as goal

abbrev pub invariant-loop-role : goal.invariant-loop-role
invariant-loop-role l =
    Goes l.fn.numbers.items l.numbers.items
    (λ r. back_from l.fn.numbers.items l.fn.group.0 l.fn.concerned.0 (length (log_at l.ledger.logs r)) (slice_index l.counts r) r)
    l.role
