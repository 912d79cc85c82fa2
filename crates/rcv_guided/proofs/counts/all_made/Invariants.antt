-- Those of the roles so far.
use Rattle.std.proofs.Common.{◌≡◌, ℕ, ◌<◌, length}
use Rattle.std.specs.Prelude.{slice_index}
use Rattle.rcv_guided.specs.Session.{made_in}
use Rattle.rcv_guided.proofs.counts.all_made.Given as goal

abbrev pub invariant-loop-role : goal.invariant-loop-role
invariant-loop-role l = record {
  eight : length l.all ≡ 8;
  all : (r : ℕ) → r < l.role → slice_index l.all r ≡ made_in l.guide r;
}
