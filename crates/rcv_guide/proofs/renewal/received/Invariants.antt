use Rattle.std.proofs.Common.{◌≡◌, ◌<◌, ◌≤◌, ℕ, length}
use Rattle.std.specs.Prelude.{slice_index}
use Rattle.rcv_points.specs.Follow.{net_in}
use Rattle.rcv_depend.specs.Logs.{between}
use Rattle.rcv_depend.specs.Cuts.{taken_within}
use Rattle.rcv_guide.proofs.renewal.received.Given as goal

abbrev pub invariant-loop-place : goal.invariant-loop-place
invariant-loop-place l =
    record {
      all : length l.received ≡ 64;
      done : (a b : ℕ) → a < 8 → b < 8 → between a b < l.place
          → slice_index l.received (between a b) ≡ taken_within (net_in l.points) l.ledger.logs l.ends a b;
      rest : (n : ℕ) → l.place ≤ n → slice_index l.received n ≡ 0;
    }
