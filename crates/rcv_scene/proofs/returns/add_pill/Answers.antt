-- Its texts are those of the role.
use Rattle.std.proofs.lemmas.Result.{on_ok_weaker}
use Rattle.rcv_scene.specs.Seen.{drawn_in}
use Rattle.rcv_scene.specs.Grid.{scene_of}
use Rattle.rcv_scene.proofs.Returning.{pill_is}
use Rattle.rcv_scene.proofs.returns.add_pill.Goals as goal

pub returns : goal.returns
returns c =
    on_ok_weaker c.add_texts.result
    (pill_is (scene_of c.args.layout.now) c.args.recovery.now c.args.y c.args.role c.args.kept c.last_point-point.result c.loses-lost.result
    c.in_ok-to.to.items c.in_ok-next.next.items c.in-Some.next.now (drawn_in c.args.shapes.now) (drawn_in c.add_texts.new.shapes)
    c.loses-lost.ensures c.in_ok-to.ensures c.last_point-point.ensures c.in-Some.ensures c.in_ok-next.ensures)
    c.add_texts.ensures
