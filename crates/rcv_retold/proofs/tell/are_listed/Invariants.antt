-- Those of the roles so far are listed.
use Rattle.std.proofs.Common.{◌≡◌, ℕ, ◌<◌}
use Rattle.std.specs.Prelude.{slice_index}
use Rattle.rcv_guide.specs.Guide.{listed_of}
use Rattle.rcv_retold.proofs.tell.are_listed.Given as goal

abbrev pub invariant-loop-role : goal.invariant-loop-role
invariant-loop-role l = (r : ℕ) → r < l.role → slice_index l.kept r ≡ slice_index (listed_of l.back) r
