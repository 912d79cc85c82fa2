-- Its label, in its row.
use Rattle.rcv_scene.specs.Seen.{label_seen}
use Rattle.rcv_scene.specs.Grid.{scene_of}
use Rattle.rcv_scene.proofs.Labelling.{send_labelled}
use Rattle.rcv_scene.proofs.beside.label_of_send.Goals as goal

pub returns : goal.returns
returns c =
    send_labelled (scene_of c.args.layout.now) c.args.y c.spot_of-spot.result.x c.back.result c.back-2.result c.args.event.now c.args.undone
    c.send_look-look.result c.in_ok-text.text.items (label_seen c.label_at_spot-label.result)
    c.spot_of-spot.ensures c.back.ensures c.back-2.ensures c.send_look-look.ensures c.in_ok-text.ensures c.label_at_spot-label.ensures
