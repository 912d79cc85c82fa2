-- Neither says anything, and the first holds the feet.
use Rattle.rcv_scene.specs.Seen.{seen}
use Rattle.rcv_scene.specs.Grid.{grid_of}
use Rattle.rcv_scene.proofs.Footing.{feet_first}
use Rattle.rcv_scene.proofs.Heading.{heads_stay}
use Rattle.rcv_scene.proofs.Telling.{silent_then}
use Rattle.rcv_scene.proofs.journal_picture.add_below.Goals as goal

pub returns-clause-silent : goal.returns-clause-silent
returns-clause-silent c =
    silent_then c.args.groups.now.items c.add_silent.new.groups.items c.add_silent-2.new.groups.items
    c.in_ok-add_silent.ensures.silent c.in_ok-add_silent-2.ensures.silent

pub returns-clause-feet : goal.returns-clause-feet
returns-clause-feet c =
    feet_first (grid_of c.args.layout.now) c.args.layout.now.end c.args.ends.now c.args.groups.now.items c.add_silent.new.groups.items c.add_silent-2.new.groups.items
    _ _ c.in_ok-feet.ensures c.in_ok-add_silent.ensures.grown c.in_ok-add_silent-2.ensures.grown

pub returns-clause-heads : goal.returns-clause-heads
returns-clause-heads c = λ has.
    let setup = c.args.layout.now.setup.now in
    let grid = grid_of c.args.layout.now in
    heads_stay setup grid c.add_silent.new.groups.items c.add_silent-2.new.groups.items _
    (heads_stay setup grid c.args.groups.now.items c.add_silent.new.groups.items _ has c.in_ok-add_silent.ensures.grown) c.in_ok-add_silent-2.ensures.grown
