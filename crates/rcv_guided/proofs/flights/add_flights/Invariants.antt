-- What is added so far.
use Rattle.std.proofs.Common.{◌≡◌, ◌++◌, flat_map}
use Rattle.std.specs.Prelude.{All}
use Rattle.std.specs.List.{range_with_len}
use Rattle.rcv_guided.specs.Flights.{IsFlight, flights_between}
use Rattle.rcv_guided.proofs.flights.add_flights.Given as goal

abbrev pub invariant-loop-from : goal.invariant-loop-from
invariant-loop-from l = record {
  items : l.flights.items ≡ l.initial.flights.items ++ flat_map (flights_between l.guide l.to) (range_with_len 0 l.from);
  declared : All (IsFlight l.guide) l.initial.flights.items → All (IsFlight l.guide) l.flights.items;
}
