use Rattle.std.proofs.Common.{length}
use Rattle.std.specs.Prelude.{slice_index}
use Rattle.rcv_ledger.specs.Logs.{log_at}
use Rattle.rcv_guide.specs.Renewal.{forgotten_from}
use Rattle.rcv_guide.proofs.Filling.{Goes}
use Rattle.rcv_guide.proofs.renewal.forget.Given as goal

abbrev pub invariant-loop-role : goal.invariant-loop-role
invariant-loop-role l =
    Goes l.fn.numbers.items l.numbers.items
    (λ r. forgotten_from (log_at l.ledger.logs r) (slice_index l.ends r) (slice_index l.counts r) (length (log_at l.fresh.logs r)))
    l.role
