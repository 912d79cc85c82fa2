-- Neither says anything, and the first holds the heads.
use Rattle.rcv_scene.specs.Seen.{further}
use Rattle.rcv_scene.specs.Grid.{grid_of}
use Rattle.rcv_scene.proofs.Heading.{heads_first}
use Rattle.rcv_scene.proofs.Telling.{silent_then}
use Rattle.rcv_scene.proofs.journal_picture.add_above.Goals as goal

pub returns-clause-silent : goal.returns-clause-silent
returns-clause-silent c =
    silent_then c.args.groups.now.items c.add_silent.new.groups.items c.add_silent-2.new.groups.items
    c.in_ok-add_silent.ensures.silent c.in_ok-add_silent-2.ensures.silent

pub returns-clause-heads : goal.returns-clause-heads
returns-clause-heads c =
    heads_first c.args.layout.now.setup.now (grid_of c.args.layout.now) (further c.args.layout.now.top 18) c.args.groups.now.items c.add_silent.new.groups.items c.add_silent-2.new.groups.items
    _ _ c.in_ok-heads.ensures c.in_ok-add_silent.ensures.grown c.in_ok-add_silent-2.ensures.grown
