-- What is found so far.
use Rattle.std.proofs.Common.{◌≡◌, flat_map}
use Rattle.std.specs.Prelude.{All}
use Rattle.std.specs.List.{range_with_len}
use Rattle.rcv_guided.specs.Flights.{IsFlight, flights_to}
use Rattle.rcv_guided.proofs.questions.all_flights.Given as goal

abbrev pub invariant-loop-role : goal.invariant-loop-role
invariant-loop-role l = record {
  items : l.found.items ≡ flat_map (flights_to l.guide) (range_with_len 0 l.role);
  declared : All (IsFlight l.guide) l.found.items;
}
