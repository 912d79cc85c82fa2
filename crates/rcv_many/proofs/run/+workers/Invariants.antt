use Rattle.std.proofs.Common.{length, ◌+◌, ◌-◌, ◌*◌}
use Rattle.rcv_many.specs.Turns.{HaveGone, AreOver}
use Rattle.rcv_many.proofs.run.+workers.Given as goal

abbrev pub decreases-share-back : goal.decreases-share-back
decreases-share-back g l = 3 * length l.theirs.now + 1

abbrev pub decreases-share-front : goal.decreases-share-front
decreases-share-front g l = 3 * length l.mine.now + 1

abbrev pub decreases-share : goal.decreases-share
decreases-share g l = 3 * length l.items.now - 1

abbrev pub decreases-work : goal.decreases-work
decreases-work g l = 3 * length l.items.now

abbrev pub invariant-work-loop-next : goal.invariant-work-loop-next
invariant-work-loop-next g l =
    HaveGone g.T.Turns.goes l.initial.items l.items × AreOver g.T.Turns.ended g.T.Turns.stopped l.next l.items
