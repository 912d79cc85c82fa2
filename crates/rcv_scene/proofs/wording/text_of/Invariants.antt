-- The pieces so far.
use Rattle.std.proofs.Common.{◌≡◌, flat_map, take}
use Rattle.rcv_scene.specs.Wording.{piece_text}
use Rattle.rcv_scene.proofs.wording.text_of.Given as goal

abbrev pub invariant-loop-piece : goal.invariant-loop-piece
invariant-loop-piece l = l.text ≡ flat_map piece_text (take l.piece-index l.pieces)
