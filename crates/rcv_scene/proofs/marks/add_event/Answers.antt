-- The disc, and the label.
use Rattle.rcv_scene.specs.Seen.{drawn_in, labels_seen}
use Rattle.rcv_scene.specs.Grid.{scene_of}
use Rattle.rcv_scene.proofs.Labelling.{event_added}
use Rattle.rcv_scene.proofs.marks.add_event.Goals as goal

pub returns : goal.returns
returns c =
    event_added (scene_of c.args.layout.now) c.args.at c.args.y c.args.event.now c.args.dir c.args.undone (labels_seen c.in_ok-words.words)
    (drawn_in c.args.shapes.now) (drawn_in c.add_disc.new.shapes) (drawn_in c.label.new.self)
    c.in_ok-add_disc.ensures c.in_ok-words.ensures c.in_ok-label.ensures
