-- The counts of the entries so far.
use Rattle.std.specs.Prelude.{◌≡◌, take}
use Rattle.rcv_gen.specs.Summary.{CountsWithin, counts_of}
use Rattle.rcv_gen.proofs.summary.count.Given as goal

abbrev pub invariant-loop-entry : goal.invariant-loop-entry
invariant-loop-entry l =
    (l.counts ≡ counts_of (take l.entry-index l.entries)) × CountsWithin l.entry-index l.counts
