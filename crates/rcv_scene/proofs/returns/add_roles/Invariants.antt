-- The roles so far.
use Rattle.rcv_scene.specs.Seen.{drawn_in}
use Rattle.rcv_scene.specs.Grid.{scene_of}
use Rattle.rcv_scene.specs.Recoveries.{AddsRoles}
use Rattle.rcv_scene.proofs.returns.add_roles.Given as goal

abbrev pub invariant-loop-role : goal.invariant-loop-role
invariant-loop-role l = AddsRoles (scene_of l.layout) l.recovery l.y l.role l.concerned l.kept (drawn_in l.fn.shapes) (drawn_in l.shapes)
