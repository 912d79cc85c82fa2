-- The roles so far.
use Rattle.rcv_scene.specs.Seen.{drawn_in}
use Rattle.rcv_scene.specs.Grid.{scene_of}
use Rattle.rcv_scene.specs.Folds.{AddsFoldParts}
use Rattle.rcv_scene.proofs.folds.add_roles.Given as goal

abbrev pub invariant-loop-role : goal.invariant-loop-role
invariant-loop-role l = AddsFoldParts (scene_of l.layout) l.y l.first l.end l.role (drawn_in l.fn.shapes) (drawn_in l.shapes)
