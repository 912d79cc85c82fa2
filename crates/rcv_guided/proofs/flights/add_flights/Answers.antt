-- One sender more.
use Rattle.rcv_guided.specs.Flights.{flights_between}
use Rattle.rcv_guided.proofs.Listing.{added_more}
use Rattle.rcv_guided.proofs.flights.add_flights.Goals as goal

pub loop-from-preserved : goal.loop-from-preserved
loop-from-preserved c = record {
  items = added_more (flights_between c.args.guide.now c.args.to) c.loop-from.from c.args.flights.now.items c.loop-from.flights.items c.add_flights_between.new.flights.items
      c.loop-from.invariant.items c.in_ok-add_flights_between.ensures.value;
  declared = λ all. c.in_ok-add_flights_between.ensures.declared (c.loop-from.invariant.declared all);
}
