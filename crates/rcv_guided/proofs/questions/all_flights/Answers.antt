-- One receiver more.
use Rattle.std.proofs.Common.{[]}
use Rattle.rcv_guided.specs.Flights.{flights_to}
use Rattle.rcv_guided.proofs.Listing.{added_more}
use Rattle.rcv_guided.proofs.questions.all_flights.Goals as goal

pub loop-role-preserved : goal.loop-role-preserved
loop-role-preserved c = record {
  items = added_more (flights_to c.args.guide.now) c.loop-role.role [] c.loop-role.found.items c.add_flights.new.flights.items c.loop-role.invariant.items c.in_ok-add_flights.ensures.value;
  declared = c.in_ok-add_flights.ensures.declared c.loop-role.invariant.declared;
}
