-- One more says nothing.
use Rattle.rcv_scene.proofs.Telling.{silent_then}
use Rattle.rcv_scene.proofs.journal_picture.add_loose.Goals as goal

pub loop-number-preserved : goal.loop-number-preserved
loop-number-preserved c =
    silent_then c.args.groups.now.items c.loop-number.groups.items c.add_silent.new.groups.items
    c.loop-number.invariant c.in_ok-add_silent.ensures.silent
