-- The heads so far.
use Rattle.rcv_scene.specs.Seen.{drawn_in}
use Rattle.rcv_scene.specs.Grid.{grid_of}
use Rattle.rcv_scene.specs.Heads.{AreHeads}
use Rattle.rcv_scene.proofs.heads.heads.Given as goal

abbrev pub invariant-loop-role : goal.invariant-loop-role
invariant-loop-role l = AreHeads l.layout.setup.now (grid_of l.layout) l.top l.role (drawn_in l.shapes)
