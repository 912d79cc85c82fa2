-- One word more than spaces so far, and those that follow.
use Rattle.std.proofs.Common.{◌≡◌, ◌+◌, ◌≤◌, [], length, drop}
use Rattle.rcv_lines.specs.Cutting.{fields_from, fields_of}
use Rattle.rcv_dialogue.proofs.words.count_of.Given as goal

abbrev pub invariant-loop-byte : goal.invariant-loop-byte
invariant-loop-byte l =
    (l.count ≤ l.byte-index + 1) × (length (fields_of l.fn.text) + 1 ≡ l.count + length (fields_from [] (drop l.byte-index l.fn.text)))
