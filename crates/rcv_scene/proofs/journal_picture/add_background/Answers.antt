-- Neither says anything.
use Rattle.rcv_scene.proofs.Telling.{silent_then}
use Rattle.rcv_scene.proofs.journal_picture.add_background.Goals as goal

pub returns : goal.returns
returns c =
    silent_then c.args.groups.now.items c.add_silent.new.groups.items c.add_silent-2.new.groups.items
    c.in_ok-add_silent.ensures.silent c.in_ok-add_silent-2.ensures.silent
