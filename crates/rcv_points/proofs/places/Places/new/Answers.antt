-- Nothing is found yet.
use Rattle.rcv_points.proofs.Marking.{nothing_found}
use Rattle.rcv_points.proofs.places.Places.new.Goals as goal

pub invariant_of-result : goal.invariant_of-result
invariant_of-result c = nothing_found c.none.result.0 c.none.ensures
