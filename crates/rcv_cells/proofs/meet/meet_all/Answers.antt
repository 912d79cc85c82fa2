-- One more cell has met all others as their sender.
use Rattle.std.proofs.Common.{rules, ◌≡◌, ◌<◌, length, subst, sym}
use Rattle.rcv_cells.proofs.Meeting.{all_more}
use Rattle.rcv_cells.proofs.meet.meet_all.Goals as goal

pub loop-from-preserved : goal.loop-from-preserved
loop-from-preserved c =
    all_more c.args.lanes.now c.loop-from.lanes c.meet_from.new.lanes c.loop-from.from c.loop-from.invariant
    c.meet_from.ensures.met c.meet_from.ensures.begun

pub returns-clause-begun : goal.returns-clause-begun
returns-clause-begun c =
    let all : c.loop-from.from ≡ length c.args.lanes.now = search rules in
    λ s r d ls lr n. c.loop-from.invariant.1 s r d (subst (λ k. s < k) (sym all) ls) lr n
