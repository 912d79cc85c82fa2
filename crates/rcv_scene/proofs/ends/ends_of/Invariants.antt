-- The lines so far.
use Rattle.std.proofs.Common.{◌≡◌, map, take}
use Rattle.rcv_scene.specs.Ends.{end_in}
use Rattle.rcv_scene.proofs.ends.ends_of.Given as goal

abbrev pub invariant-loop-line : goal.invariant-loop-line
invariant-loop-line l = l.ends.items ≡ map end_in (take l.line-index l.lines)
