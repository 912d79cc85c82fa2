-- A box, and the texts.
use Rattle.rcv_scene.specs.Seen.{drawn_in}
use Rattle.rcv_scene.specs.Grid.{grid_of}
use Rattle.rcv_scene.proofs.Footing.{foot_is}
use Rattle.rcv_scene.proofs.feet.add_foot.Goals as goal

pub returns : goal.returns
returns c =
    foot_is (grid_of c.args.layout.now) c.args.layout.now.end c.column_of-x.result c.args.role.now c.in_ok-kept.kept.items c.place-corner.result _ _ _
    (drawn_in c.args.shapes.now) (drawn_in c.rect.new.self) (drawn_in c.add_texts.new.shapes)
    c.column_of-x.ensures c.in_ok-kept.ensures c.in_ok-rect.ensures c.in_ok-add_texts.ensures
