-- One role more.
use Rattle.rcv_scene.specs.Seen.{drawn_in}
use Rattle.rcv_scene.specs.Grid.{scene_of}
use Rattle.rcv_scene.proofs.Counting.{no_parts, next_part}
use Rattle.rcv_scene.proofs.folds.add_roles.Goals as goal

pub loop-role-init : goal.loop-role-init
loop-role-init c = no_parts (scene_of c.args.layout.now) c.args.y c.args.first c.args.end (drawn_in c.args.shapes.now)

pub loop-role-preserved : goal.loop-role-preserved
loop-role-preserved c =
    next_part (scene_of c.args.layout.now) c.args.y c.args.first c.args.end c.loop-role.role (drawn_in c.args.shapes.now) (drawn_in c.loop-role.shapes)
    (drawn_in c.add_role.new.shapes) c.loop-role.invariant c.in_ok-add_role.ensures
