use Rattle.rcv_points.specs.Follow.{net_in}
use Rattle.rcv_guide.specs.Renewal.{ArePassed, IsRenewing, left_in}
use Rattle.rcv_guide.proofs.renewal.renewed.Given as goal

abbrev pub invariant-loop-front : goal.invariant-loop-front
invariant-loop-front l =
    ArePassed (net_in l.points) l.ledger.logs l.passed.counts l.passed.put
    × IsRenewing (net_in l.points) l.ledger.logs l.ends l.room l.passed.counts l.fresh

abbrev pub decreases-loop-front : goal.decreases-loop-front
decreases-loop-front l = left_in l.ledger.logs l.passed.counts
