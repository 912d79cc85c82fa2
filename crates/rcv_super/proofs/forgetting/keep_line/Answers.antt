-- The new line is no less than the one before, which was stable still.
use Rattle.rcv_super.proofs.Bases.{line_rises}
use Rattle.rcv_super.proofs.forgetting.keep_line.Goals as goal

pub forget_before-requires-clause-above : goal.forget_before-requires-clause-above
forget_before-requires-clause-above c = line_rises c.args.house.now.book c.args.line.now c.stable_line-new.result c.args.house.now.lanes.items c.stable_line-new.ensures c.still_stable.ensures (c.requires.home (c.is_home.ensures.0 c.if-is_home.true)).1
