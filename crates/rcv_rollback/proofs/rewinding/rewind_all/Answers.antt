-- The channels of one sender more went back.
use Rattle.rcv_rollback.proofs.Stepping.{moved_self, moved_then}
use Rattle.rcv_rollback.proofs.rewinding.rewind_all.Goals as goal

pub loop-from-init : goal.loop-from-init
loop-from-init c = (c.requires, moved_self c.args.book.now 0 0 c.args.half.now.items c.requires)

pub loop-from-preserved : goal.loop-from-preserved
loop-from-preserved c = (
  c.rewind_from.ensures.going,
  moved_then c.args.half.now.items c.loop-from.half.items
      c.rewind_from.new.half.items c.loop-from.invariant.1 c.rewind_from.ensures.moved,
)
