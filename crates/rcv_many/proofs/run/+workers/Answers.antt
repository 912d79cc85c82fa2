use Rattle.std.proofs.Common.{rules}
use Rattle.rcv_many.proofs.Sharing.{shared}
use Rattle.rcv_many.proofs.run.+workers.Goals as goal

pub work-returns-in-Some : goal.work-returns-in-Some
work-returns-in-Some g t c =
    shared g.T.Turns.ended g.T.Turns.stopped g.T.Turns.goes c.turns_join.ensures _ c.loop-next.items _ _ _ c.loop-next.next c.run_one.new.item
    c.index-items-next.result (search rules) c.loop-next.invariant c.run_one.ensures.goes c.split_at_mut-rest.ensures.value
    c.split_at_mut-rest.ensures.front_len c.share.ensures
