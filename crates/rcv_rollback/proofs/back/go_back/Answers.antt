-- The channels go back, and then the parts.
use Rattle.rcv_rollback.proofs.Stepping.{moved_then}
use Rattle.rcv_rollback.proofs.Ending.{to_go, to_settle, gone_back_all}
use Rattle.rcv_rollback.proofs.back.go_back.Goals as goal

pub rewind_all-requires : goal.rewind_all-requires
rewind_all-requires c = to_go c.args.book.now c.args.half.now.items c.requires

pub settle_all-requires : goal.settle_all-requires
settle_all-requires c = to_settle c.args.book.now c.rewind_all.new.half.items c.rewind_all.ensures.going

pub returns : goal.returns
returns c = gone_back_all c.args.book.now c.args.half.now.items c.settle_all.new.half.items c.requires.count
    (moved_then c.args.half.now.items c.rewind_all.new.half.items c.settle_all.new.half.items
    c.rewind_all.ensures.moved c.settle_all.ensures.moved) c.settle_all.ensures.gone
