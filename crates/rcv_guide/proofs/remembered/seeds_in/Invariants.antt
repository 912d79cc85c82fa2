use Rattle.std.proofs.Common.{◌≡◌, take, flat_map}
use Rattle.std.specs.List.{range_with_len}
use Rattle.rcv_ledger.specs.Logs.{log_at}
use Rattle.rcv_guide.specs.Numbers.{numbers_at}
use Rattle.rcv_guide.proofs.remembered.seeds_in.Given as goal

abbrev pub invariant-loop-role : goal.invariant-loop-role
invariant-loop-role l = l.seeds.items ≡ flat_map (λ r. take (numbers_at l.numbers r).seeds (log_at l.ledger.logs r)) (range_with_len 0 l.role)
