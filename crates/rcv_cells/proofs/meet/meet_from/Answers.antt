-- One more cell has met the sender, which doesn't meet itself.
use Rattle.std.proofs.Common.{rules, ◌≡◌, ◌+◌, ◌<◌, length, subst, sym}
use Rattle.rcv_cells.specs.Home.{AllMet}
use Rattle.rcv_cells.proofs.Meeting.{begun_more, begun_same, HaveBegunTo}
use Rattle.rcv_cells.proofs.meet.meet_from.Goals as goal
use Rattle.rcv_cells.proofs.meet.meet_from.Goals.{then-to-from, else-to-from}

pub loop-to-preserved : goal.loop-to-preserved
loop-to-preserved c = elim c.if-to-from.branch [
  | then-to-from w ↦ subst (λ l. AllMet c.args.lanes.now l × HaveBegunTo c.args.lanes.now c.args.from (c.loop-to.to + 1)) (sym w.lanes-is) (begun_more c.args.lanes.now c.loop-to.lanes w.meet_pair.new.lanes c.args.from c.loop-to.to c.loop-to.invariant w.meet_pair.ensures.met w.meet_pair.ensures.begun)
  | else-to-from w ↦ subst (λ l. AllMet c.args.lanes.now l × HaveBegunTo c.args.lanes.now c.args.from (c.loop-to.to + 1)) (sym w.lanes-is) (begun_same c.args.lanes.now c.loop-to.lanes c.args.from c.loop-to.to (search rules) c.loop-to.invariant)
]

pub returns-clause-begun : goal.returns-clause-begun
returns-clause-begun c =
    let all : c.loop-to.to ≡ length c.args.lanes.now = search rules in
    λ r d lr n. c.loop-to.invariant.1 r d (subst (λ k. r < k) (sym all) lr) n
