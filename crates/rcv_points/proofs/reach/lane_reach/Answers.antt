-- What the places that were found offer is what can come along the lane.
use Rattle.std.proofs.Common.{sym, subst, ◌∙◌}
use Rattle.rcv_tree.specs.Bits.{members}
use Rattle.rcv_points.specs.Follow.{net_in}
use Rattle.rcv_points.specs.Ahead.{IsLaneReach}
use Rattle.rcv_points.proofs.Gathering.{of_none, of_some}
use Rattle.rcv_points.proofs.LaneReaching.{none_reached, some_reached}
use Rattle.rcv_points.proofs.reach.lane_reach.Goals as goal

pub returns-then-is_empty : goal.returns-then-is_empty
returns-then-is_empty c = subst (λ b. IsLaneReach (net_in c.args.points.now) c.args.role c.args.first.now (members c.union-come.result.0) b) (sym c.if-is_empty.true) (none_reached (net_in c.args.points.now) c.args.role c.args.first.now c.places_from-places.result c.as_set.result.0 c.offered_by.result.0 c.union-come.result.0 c.as_set.ensures c.places_from-places.ensures.all c.offered_by.ensures c.union-come.ensures.all (sym c.as_slice.ensures ∙ of_none c.as_slice.result.now c.if-is_empty.ensures))

pub returns-else-is_empty : goal.returns-else-is_empty
returns-else-is_empty c = some_reached (net_in c.args.points.now) c.args.role c.args.first.now c.places_from-places.result c.as_set.result.0 c.offered_by.result.0 c.union-come.result.0 c.some_ends-ends.result c.as_set.ensures c.places_from-places.ensures.all c.offered_by.ensures c.union-come.ensures.all (λ e. of_some c.as_slice.result.now c.if-is_empty.ensures (c.as_slice.ensures ∙ e)) c.some_ends-ends.ensures
