-- The counts of the roles so far.
use Rattle.std.proofs.Common.{◌≡◌, ℕ, ◌<◌, length}
use Rattle.std.specs.Prelude.{slice_index}
use Rattle.rcv_retold.proofs.tell.wide.Given as goal

abbrev pub invariant-loop-role : goal.invariant-loop-role
invariant-loop-role l = record {
  eight : length l.wide ≡ 8;
  same : (r : ℕ) → r < l.role → slice_index l.wide r ≡ slice_index l.counts r;
}
