-- Those of the roles so far.
use Rattle.std.proofs.Common.{◌≡◌, ℕ, ◌<◌, length}
use Rattle.std.specs.Prelude.{slice_index}
use Rattle.rcv_guided.proofs.back.copied.Given as goal

abbrev pub invariant-loop-role : goal.invariant-loop-role
invariant-loop-role l = record {
  eight : length l.copy ≡ 8;
  done : (r : ℕ) → r < l.role → slice_index l.copy r ≡ slice_index l.incarnations r;
}
