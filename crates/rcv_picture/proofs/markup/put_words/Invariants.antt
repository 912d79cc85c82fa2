-- The bytes so far.
use Rattle.std.proofs.Common.{◌≡◌, ◌++◌, flat_map, take}
use Rattle.rcv_picture.specs.Tree.{escape}
use Rattle.rcv_picture.proofs.markup.put_words.Given as goal

abbrev pub invariant-loop-byte : goal.invariant-loop-byte
invariant-loop-byte l = l.text ≡ l.fn.text ++ flat_map escape (take l.byte-index l.words)
