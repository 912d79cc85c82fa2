-- What was taken is the text so far and what the pipe holds; the text is other lines, and the front of one.
use Rattle.std.proofs.Common.{◌≡◌, ◌+◌, ◌-◌, ◌*◌, ◌≤◌, ◌++◌, false, length}
use Rattle.rcv_io.specs.Source.{Took}
use Rattle.rcv_pipe.proofs.Openings.{IsSoFar}
use Rattle.rcv_pipe.proofs.opening.read_text.Given as goal

abbrev pub invariant-loop-feed : goal.invariant-loop-feed
invariant-loop-feed g l = record {
  took : Took (g.S.Source.rest l.initial.source) (g.S.Source.rest l.source) (g.S.Source.given l.initial.source) (g.S.Source.given l.source) (l.text.items ++ l.pipe.held);
  so_far : IsSoFar l.text.items l.line;
  room : length l.text.items ≤ 1048587;
  short : l.pipe.long ≡ false;
  few : length l.pipe.held ≤ 65536;
  fine : g.S.Source.faults l.source ≡ g.S.Source.faults l.initial.source;
}

abbrev pub decreases-loop-feed : goal.decreases-loop-feed
decreases-loop-feed g l = 2 * (1048587 - length l.text.items) + (65536 - length l.pipe.held)
