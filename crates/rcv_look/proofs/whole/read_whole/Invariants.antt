-- What was taken so far is what the list holds.
use Rattle.std.proofs.Common.{◌≡◌, ◌≤◌, ◌-◌, vec_len}
use Rattle.rcv_io.specs.Source.{Took}
use Rattle.rcv_look.proofs.whole.read_whole.Given as goal

abbrev pub invariant-loop-bytes : goal.invariant-loop-bytes
invariant-loop-bytes g l = record {
  took : Took (g.S.Source.rest l.initial.source) (g.S.Source.rest l.source) (g.S.Source.given l.initial.source) (g.S.Source.given l.source) l.bytes.items;
  short : vec_len l.bytes ≤ l.most;
  fine : g.S.Source.faults l.source ≡ g.S.Source.faults l.initial.source;
}

abbrev pub decreases-loop-bytes : goal.decreases-loop-bytes
decreases-loop-bytes g l = l.most - vec_len l.bytes
