use Rattle.std.proofs.Common.{◌≡◌, ℕ, List, length}
use Rattle.std.specs.Prelude.{Some, slice_get}
use Rattle.rcv_points.specs.Follow.{net_in}
use Rattle.rcv_tables.specs.Line.{offered_on}
use Rattle.rcv_tables.proofs.line.Line.of.Given as goal

abbrev pub invariant-loop-place : goal.invariant-loop-place
invariant-loop-place l = record {
  all : length l.places.items ≡ l.place;
  each : (k : ℕ) (ps : List ℕ) → slice_get l.places.items k ≡ Some ps → ps ≡ offered_on (net_in l.points) k;
}
