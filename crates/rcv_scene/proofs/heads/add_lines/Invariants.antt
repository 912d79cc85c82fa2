-- The lines so far.
use Rattle.std.proofs.Common.{take}
use Rattle.rcv_scene.specs.Seen.{drawn_in}
use Rattle.rcv_picture.specs.Names.{joined}
use Rattle.rcv_scene.specs.Heads.{AddsLines}
use Rattle.rcv_scene.proofs.heads.add_lines.Given as goal

abbrev pub invariant-loop-line : goal.invariant-loop-line
invariant-loop-line l = AddsLines l.x l.fn.top (joined (take l.line-index l.lines)) l.y (drawn_in l.fn.shapes) (drawn_in l.shapes)
