use Rattle.rcv_guide.specs.Renewal.{left_in}
use Rattle.rcv_guide.specs.Remembered.{IsMerging}
use Rattle.rcv_guide.proofs.remembered.merged.Given as goal

abbrev pub invariant-loop-front : goal.invariant-loop-front
invariant-loop-front l = IsMerging l.ledger.logs l.starts l.places l.events.items

abbrev pub decreases-loop-front : goal.decreases-loop-front
decreases-loop-front l = left_in l.ledger.logs l.places
