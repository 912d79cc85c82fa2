-- One point more.
use Rattle.std.proofs.Common.{rules}
use Rattle.rcv_scene.proofs.Returning.{next_named}
use Rattle.rcv_scene.proofs.returns.next_text.Goals as goal

pub loop-number-preserved : goal.loop-number-preserved
loop-number-preserved c =
    next_named c.args.next.now c.loop-number.number _ c.loop-number.text.items c.add_next.new.text.items (search rules) (search rules)
    c.loop-number.invariant c.in_ok-add_next.ensures
