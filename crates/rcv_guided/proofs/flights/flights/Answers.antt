-- One receiver more.
use Rattle.std.proofs.Common.{Vec, Global, sym, ◌∙◌, ap}
use Rattle.std.proofs.lemmas.List.Elements.{All-same}
use Rattle.rcv_tree.specs.Bits.{has_bit}
use Rattle.rcv_dialogue.specs.declared.line.Flight.{Flight}
use Rattle.rcv_guided.specs.Flights.{flights_to, IsFlight}
use Rattle.rcv_guided.proofs.Listing.{found_in, found_out}
use Rattle.rcv_guided.proofs.flights.flights.Goals as goal
use Rattle.rcv_guided.proofs.flights.flights.Goals.{then-has+in_ok-add_flights, else-has}

pub loop-role-preserved : goal.loop-role-preserved
loop-role-preserved c = elim c.if-has.branch [
  | then-has+in_ok-add_flights w ↦
      let same = ap (λ (v : Vec Flight Global). v.items) w.found-is in
      record {
        items = same ∙ found_in (flights_to c.args.guide.now) (has_bit c.args.to.0) c.loop-role.role c.loop-role.found.items w.add_flights.new.flights.items
            (sym c.has.ensures ∙ w.if-has.true) c.loop-role.invariant.items w.in_ok-add_flights.ensures.value;
        declared = All-same (IsFlight c.args.guide.now) c.if-has.found.items w.add_flights.new.flights.items same (w.in_ok-add_flights.ensures.declared c.loop-role.invariant.declared);
      }
  | else-has w ↦
      let same = ap (λ (v : Vec Flight Global). v.items) w.found-is in
      record {
        items = same ∙ found_out (flights_to c.args.guide.now) (has_bit c.args.to.0) c.loop-role.role c.loop-role.found.items (sym c.has.ensures ∙ w.if-has.false) c.loop-role.invariant.items;
        declared = All-same (IsFlight c.args.guide.now) c.if-has.found.items c.loop-role.found.items same c.loop-role.invariant.declared;
      }
]
