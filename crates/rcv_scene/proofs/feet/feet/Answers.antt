-- One foot more.
use Rattle.std.proofs.Common.{rules}
use Rattle.rcv_scene.specs.Seen.{drawn_in}
use Rattle.rcv_scene.specs.Grid.{grid_of}
use Rattle.rcv_scene.proofs.Footing.{no_feet, next_foot}
use Rattle.rcv_scene.proofs.feet.feet.Goals as goal

pub loop-role-init : goal.loop-role-init
loop-role-init c = no_feet (grid_of c.args.layout.now) c.args.layout.now.end (drawn_in c.new-shapes.result) c.new-shapes.ensures

pub loop-role-preserved : goal.loop-role-preserved
loop-role-preserved c =
    next_foot (grid_of c.args.layout.now) c.args.layout.now.end c.args.ends.now c.loop-role.role-index _ (drawn_in c.loop-role.shapes) (drawn_in c.add_foot.new.shapes)
    (search rules) (search rules) c.loop-role.invariant c.in_ok-add_foot.ensures
