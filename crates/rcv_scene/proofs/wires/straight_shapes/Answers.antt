-- One stroke.
use Rattle.rcv_scene.specs.Seen.{drawn_in}
use Rattle.rcv_scene.specs.Grid.{scene_of}
use Rattle.rcv_scene.proofs.Wiring.{straight}
use Rattle.rcv_scene.proofs.wires.straight_shapes.Goals as goal

pub returns : goal.returns
returns c = λ send from_there to_there.
    let scene = scene_of c.args.layout.now in
    let wire = c.args.wire.now in
    straight scene send wire.receive wire.sender wire.receiver c.args.undone c.is_again.result c.begin-from.result c.end-to.result c.look_of.result
    _ (drawn_in c.line.new.self) (drawn_in c.new-shapes.result)
    (c.begin-from.ensures send from_there) (c.end-to.ensures wire.receive to_there) c.is_again.ensures c.look_of.ensures c.finish.ensures c.in_ok-line.ensures c.new-shapes.ensures
