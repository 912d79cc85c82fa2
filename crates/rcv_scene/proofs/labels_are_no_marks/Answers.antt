-- By what a label may be.
use Rattle.rcv_scene.proofs.Plainness.{plain_labels}
use Rattle.rcv_scene.proofs.labels_are_no_marks.Goals as goal

pub returns : goal.returns
returns c = plain_labels
