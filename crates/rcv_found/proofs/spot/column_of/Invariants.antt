use Rattle.std.proofs.Common.{◌≡◌, ◌≤◌, ◌+◌, take}
use Rattle.rcv_found.specs.Spots as spots
use Rattle.rcv_found.proofs.spot.column_of.Given as goal

abbrev pub invariant-loop-byte : goal.invariant-loop-byte
invariant-loop-byte l = record {
  so_far : l.column ≡ spots.column_of (take l.byte-index l.before);
  short : l.column ≤ l.byte-index + 1;
}
