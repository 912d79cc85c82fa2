-- Two cells have met where they lie.
use Rattle.rcv_cells.proofs.Meeting.{pair_met}
use Rattle.rcv_cells.proofs.meet.meet_pair.Goals as goal

pub two_together-requires-clause-can : goal.two_together-requires-clause-can
two_together-requires-clause-can c d = c.requires.pairs c.args.from c.args.to d c.requires.from c.requires.to c.requires.apart

pub returns-clause-met : goal.returns-clause-met
returns-clause-met c =
    pair_met c.args.lanes.now c.two_together.new.items c.args.from c.args.to c.two_together.ensures.count
    c.two_together.ensures.others c.two_together.ensures.done

pub returns-clause-paired : goal.returns-clause-paired
returns-clause-paired c d = (c.two_together.ensures.done d).paired

pub returns-clause-begun : goal.returns-clause-begun
returns-clause-begun c d = (c.two_together.ensures.done d).begun
