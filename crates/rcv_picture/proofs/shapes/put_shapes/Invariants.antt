-- The shapes so far.
use Rattle.std.proofs.Common.{◌≡◌, ◌++◌, flat_map, take}
use Rattle.rcv_picture.specs.Drawn.{shape_text}
use Rattle.rcv_picture.proofs.shapes.put_shapes.Given as goal

abbrev pub invariant-loop-shape : goal.invariant-loop-shape
invariant-loop-shape l = l.text ≡ l.fn.text ++ flat_map shape_text (take l.shape-index l.shapes)
