-- One head more.
use Rattle.rcv_scene.specs.Seen.{drawn_in}
use Rattle.rcv_scene.specs.Grid.{grid_of}
use Rattle.rcv_scene.proofs.Heading.{title_first, next_head}
use Rattle.rcv_scene.proofs.heads.heads.Goals as goal

pub loop-role-init : goal.loop-role-init
loop-role-init c =
    title_first c.args.layout.now.setup.now (grid_of c.args.layout.now) c.further-top.result _ (drawn_in c.new-shapes.result) (drawn_in c.words.new.self)
    c.new-shapes.ensures c.in_ok-words.ensures

pub loop-role-preserved : goal.loop-role-preserved
loop-role-preserved c =
    next_head c.args.layout.now.setup.now (grid_of c.args.layout.now) c.further-top.result c.loop-role.role (drawn_in c.loop-role.shapes) (drawn_in c.add_head.new.shapes)
    c.loop-role.invariant c.in_ok-add_head.ensures
