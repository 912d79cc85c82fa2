-- The roles so far ascend.
use Rattle.std.proofs.Common.{◌+◌, ◌<◌, ◌≤◌, ℕ, get_or}
use Rattle.rcv_lines.proofs.names.is_ascending.Given as goal

abbrev pub invariant-loop-place : goal.invariant-loop-place
invariant-loop-place l = (1 ≤ l.place) × ((k : ℕ) → k + 1 < l.place → get_or l.fn.roles k 0 < get_or l.fn.roles (k + 1) 0)
