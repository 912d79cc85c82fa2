-- The bytes so far.
use Rattle.std.specs.Prelude.{◌≡◌, take}
use Rattle.rcv_export.specs.Pieces.{ascii_of}
use Rattle.rcv_export.proofs.words.ascii_of.Given as goal

abbrev pub invariant-loop-byte : goal.invariant-loop-byte
invariant-loop-byte l = l.kept.items ≡ ascii_of (take l.byte-index l.name)
