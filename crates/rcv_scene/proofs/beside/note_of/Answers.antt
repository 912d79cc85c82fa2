-- Its label, in its row.
use Rattle.rcv_scene.specs.Seen.{label_seen}
use Rattle.rcv_scene.specs.Grid.{scene_of}
use Rattle.rcv_scene.proofs.Labelling.{recv_noted}
use Rattle.rcv_scene.proofs.beside.note_of.Goals as goal

pub returns : goal.returns
returns c =
    recv_noted (scene_of c.args.layout.now) c.args.y c.spot_of-spot.result.x c.further.result c.further-2.result c.args.event.now c.args.undone c.args.again
    c.recv_look-look.result c.in_ok-text.text.items c.add_again.new.text.items (label_seen c.label_at_spot-label.result)
    c.spot_of-spot.ensures c.further.ensures c.further-2.ensures c.recv_look-look.ensures c.in_ok-text.ensures c.in_ok-add_again.ensures
    c.label_at_spot-label.ensures
