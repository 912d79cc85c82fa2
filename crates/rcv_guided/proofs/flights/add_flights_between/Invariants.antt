-- What is added so far.
use Rattle.std.proofs.Common.{◌≡◌, ◌++◌, map, take}
use Rattle.std.specs.Prelude.{All}
use Rattle.rcv_guided.specs.Flights.{IsFlight}
use Rattle.rcv_guided.proofs.flights.add_flights_between.Given as goal

abbrev pub invariant-loop-message : goal.invariant-loop-message
invariant-loop-message l = record {
  items : l.flights.items ≡ l.initial.flights.items ++ map (λ m. record { from = l.from; to = l.to; message = m }) (take l.message-index l.message-items);
  declared : All (IsFlight l.guide) l.initial.flights.items → All (IsFlight l.guide) l.flights.items;
}
