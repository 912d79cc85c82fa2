-- A box, the name, and the host.
use Rattle.rcv_scene.specs.Seen.{drawn_in}
use Rattle.rcv_scene.specs.Grid.{grid_of}
use Rattle.rcv_scene.proofs.Heading.{head_is}
use Rattle.rcv_scene.proofs.heads.add_head.Goals as goal

pub returns : goal.returns
returns c =
    head_is c.args.layout.now.setup.now (grid_of c.args.layout.now) c.args.top c.args.role c.x-x.result c.in_ok-under.under c.place-corner.result _ _ _
    (drawn_in c.args.shapes.now) (drawn_in c.rect.new.self) (drawn_in c.add_name.new.shapes) (drawn_in c.add_host.new.shapes)
    c.x-x.ensures c.in_ok-rect.ensures c.in_ok-under.ensures c.in_ok-add_host.ensures
