-- The feet so far.
use Rattle.std.proofs.Common.{take}
use Rattle.rcv_scene.specs.Seen.{drawn_in}
use Rattle.rcv_scene.specs.Grid.{grid_of}
use Rattle.rcv_scene.specs.Feet.{AreFeet}
use Rattle.rcv_scene.proofs.feet.feet.Given as goal

abbrev pub invariant-loop-role : goal.invariant-loop-role
invariant-loop-role l = AreFeet (grid_of l.layout) l.layout.end (take l.role-index l.ends) (drawn_in l.shapes)
