-- All is added, one part behind the other.
use Rattle.rcv_fates.specs.Record.{journal_of}
use Rattle.rcv_scene.specs.Grid.{grid_of, scene_of}
use Rattle.rcv_scene.proofs.Footing.{feet_stay}
use Rattle.rcv_scene.proofs.Heading.{heads_stay}
use Rattle.rcv_scene.proofs.Telling.{whole}
use Rattle.rcv_scene.proofs.journal_picture.groups_of.Goals as goal

pub returns-clause-adds : goal.returns-clause-adds
returns-clause-adds c =
    whole (journal_of c.args.record.now) (scene_of c.args.layout.now) c.new-groups.result.items c.add_background.new.groups.items c.add_all.new.groups.items c.add_loose.new.groups.items
    c.add_all-2.new.groups.items c.add_above.new.groups.items c.add_below.new.groups.items c.add_silent.new.groups.items
    c.args.wires.now c.args.rows.now c.new-groups.ensures.items c.in_ok-add_background.ensures c.in_ok-add_all.ensures c.in_ok-add_loose.ensures
    c.in_ok-add_all-2.ensures c.in_ok-add_above.ensures.silent c.in_ok-add_below.ensures.silent c.in_ok-add_silent.ensures.silent

pub returns-clause-feet : goal.returns-clause-feet
returns-clause-feet c =
    feet_stay (grid_of c.args.layout.now) c.args.ends.now c.add_below.new.groups.items c.add_silent.new.groups.items _
    c.in_ok-add_below.ensures.feet c.in_ok-add_silent.ensures.grown

pub returns-clause-heads : goal.returns-clause-heads
returns-clause-heads c =
    heads_stay c.args.layout.now.setup.now (grid_of c.args.layout.now) c.add_below.new.groups.items c.add_silent.new.groups.items _
    (c.in_ok-add_below.ensures.heads c.in_ok-add_above.ensures.heads) c.in_ok-add_silent.ensures.grown
