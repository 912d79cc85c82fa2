-- Beside the mark, or under the fold.
use Rattle.rcv_scene.specs.Grid.{scene_of}
use Rattle.rcv_scene.proofs.Wiring.{begins_own, begins_folded}
use Rattle.rcv_scene.proofs.wires.begin.Goals as goal

pub returns-in-Own : goal.returns-in-Own
returns-in-Own c = λ send stands.
    begins_own (scene_of c.args.layout.now) send c.args.role c.args.stand c.in-Own.y c.x.result c.beside.result c.lowered.result c.at.result
    c.in-Own.is c.x.ensures c.beside.ensures c.lowered.ensures c.at.ensures stands

pub returns-in-Folded : goal.returns-in-Folded
returns-in-Folded c = λ send stands.
    begins_folded (scene_of c.args.layout.now) send c.args.role c.args.stand c.in-Folded.row c.args.lane c.back.result c.at-in-Folded.result
    c.in-Folded.is c.back.ensures c.at-in-Folded.ensures stands
