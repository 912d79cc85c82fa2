-- What is found so far.
use Rattle.std.proofs.Common.{◌≡◌}
use Rattle.std.specs.Prelude.{All}
use Rattle.std.specs.List.{filter, range_with_len}
use Rattle.rcv_tree.specs.Bits.{has_bit}
use Rattle.rcv_guided.specs.Flights.{IsFlight, flights_to_all}
use Rattle.rcv_guided.proofs.flights.flights.Given as goal

abbrev pub invariant-loop-role : goal.invariant-loop-role
invariant-loop-role l = record {
  items : l.found.items ≡ flights_to_all l.guide (filter (has_bit l.to.0) (range_with_len 0 l.role));
  declared : All (IsFlight l.guide) l.found.items;
}
