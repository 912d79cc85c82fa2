-- One more head is that of the next point.
use Rattle.rcv_journal.proofs.Heads.{one_more}
use Rattle.rcv_journal.proofs.head.heads.Goals as goal

pub loop-number-preserved : goal.loop-number-preserved
loop-number-preserved g c =
    let loop = c.loop-number in
    one_more g.B.Beginning.begun c.args.setup.now loop.heads.items c.push.new.self.items c.in_ok-of.field-0 loop.number c.in_ok-push.ensures.items c.in_ok-of.ensures loop.invariant
