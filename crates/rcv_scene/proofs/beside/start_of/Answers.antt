-- At either side.
use Rattle.std.proofs.Common.{refl}
use Rattle.rcv_picture.specs.declared.shape.Anchor.TheVariants.{Start, End}
use Rattle.rcv_scene.proofs.Labelling.{left_of, right_of}
use Rattle.rcv_scene.proofs.beside.start_of.Goals as goal

pub returns-in-Left : goal.returns-in-Left
returns-in-Left c = left_of c.args.spot.x c.back.result End c.apart-far.result c.apart-far.ensures c.back.ensures refl

pub returns-in-Right : goal.returns-in-Right
returns-in-Right c = right_of c.args.spot.x c.further.result Start c.apart-far.result c.apart-far.ensures c.further.ensures refl
