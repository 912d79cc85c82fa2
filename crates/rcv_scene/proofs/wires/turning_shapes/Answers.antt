-- One way.
use Rattle.std.proofs.Common.{◌≡◌, ◌∷◌, [], ◌++◌, List, subst}
use Rattle.rcv_picture.specs.declared.pixels.At.{At}
use Rattle.rcv_scene.specs.Seen.{drawn_in, Way}
use Rattle.rcv_scene.specs.Grid.{scene_of}
use Rattle.rcv_scene.proofs.Wiring.{turning}
use Rattle.rcv_scene.proofs.wires.turning_shapes.Goals as goal

pub returns : goal.returns
returns c = λ send from_there to_there.
    let scene = scene_of c.args.layout.now in
    let wire = c.args.wire.now in
    turning scene send wire.receive wire.sender wire.receiver c.args.undone c.is_again.result c.begin-from.result c.end-to.result c.as_slice.result.now c.look_of-look.result
    _ (drawn_in c.add_turning.new.shapes) (drawn_in c.new-shapes.result)
    (c.begin-from.ensures send from_there) (c.end-to.ensures wire.receive to_there) c.is_again.ensures c.look_of-look.ensures c.finish.ensures c.in_ok-add_turning.ensures c.new-shapes.ensures
