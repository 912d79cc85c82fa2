-- The groups are drawn on the grid of the layout.
use Rattle.std.proofs.Common.{◌++◌}
use Rattle.rcv_scene.specs.Grid.{scene_of}
use Rattle.rcv_scene.proofs.Planning.{on_grid}
use Rattle.rcv_scene.proofs.journal_picture.journal_picture.Goals as goal

pub returns-clause-drawn : goal.returns-clause-drawn
returns-clause-drawn c =
    on_grid c.args.record.now c.args.story.now c.args.ends.now c.args.rows.now (scene_of c.in_ok-layout.layout) c.in_ok-groups.groups.items
    (c.args.wires.now ++ c.args.rows.now) c.in_ok-layout.ensures c.in_ok-groups.ensures.adds c.in_ok-groups.ensures.feet c.in_ok-groups.ensures.heads
