-- Beside the mark, or over the fold.
use Rattle.rcv_scene.specs.Grid.{scene_of}
use Rattle.rcv_scene.proofs.Wiring.{ends_own, ends_folded}
use Rattle.rcv_scene.proofs.wires.end.Goals as goal

pub returns-in-Own : goal.returns-in-Own
returns-in-Own c = λ receive stands.
    ends_own (scene_of c.args.layout.now) receive c.args.role c.args.stand c.in-Own.y c.x.result c.beside.result c.raised.result c.at.result
    c.in-Own.is c.x.ensures c.beside.ensures c.raised.ensures c.at.ensures stands

pub returns-in-Folded : goal.returns-in-Folded
returns-in-Folded c = λ receive stands.
    ends_folded (scene_of c.args.layout.now) receive c.args.role c.args.stand c.in-Folded.row c.args.lane c.further.result c.at-in-Folded.result
    c.in-Folded.is c.further.ensures c.at-in-Folded.ensures stands
