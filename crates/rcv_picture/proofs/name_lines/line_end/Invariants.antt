-- The last seam so far.
use Rattle.rcv_picture.specs.Names.{IsEndBefore}
use Rattle.rcv_picture.proofs.name_lines.line_end.Given as goal

abbrev pub invariant-loop-letters : goal.invariant-loop-letters
invariant-loop-letters l = IsEndBefore l.name l.letters l.end
