-- One part more went back.
use Rattle.rcv_rollback.proofs.Stepping.{moved_then}
use Rattle.rcv_rollback.proofs.Ending.{gone_self}
use Rattle.rcv_rollback.proofs.settling.settle_all.Goals as goal

pub loop-role-init : goal.loop-role-init
loop-role-init c = (c.requires, gone_self c.args.book.now 0 c.args.half.now.items c.requires)

pub loop-role-preserved : goal.loop-role-preserved
loop-role-preserved c = (
  c.settle.ensures.gone,
  moved_then c.args.half.now.items c.loop-role.half.items
      c.settle.new.half.items c.loop-role.invariant.1 c.settle.ensures.moved,
)
