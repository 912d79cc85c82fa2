use Rattle.std.specs.Prelude.{length}
use Rattle.std.specs.List.{sum}
use Rattle.rcv_points.specs.Follow.{net_in}
use Rattle.rcv_depend.specs.Cuts.{IsCounted, AllEven}
use Rattle.rcv_guide.specs.Line.{AreAboveLines}
use Rattle.rcv_guide.proofs.line.line.Given as goal

abbrev pub invariant-loop-back : goal.invariant-loop-back
invariant-loop-back l =
    IsCounted (net_in l.points) l.ledger.logs l.counted
    × AllEven (length l.ledger.logs) l.counted
    × AreAboveLines (net_in l.points) l.ledger.logs l.numbers l.saves l.counted.counts

abbrev pub decreases-loop-back : goal.decreases-loop-back
decreases-loop-back l = sum l.counted.counts
