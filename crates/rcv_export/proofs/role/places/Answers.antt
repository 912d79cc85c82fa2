-- One place more, if the point is the role's.
use Rattle.std.proofs.Common.{map}
use Rattle.serde_json.specs.View.{view}
use Rattle.rcv_accept.specs.Accepted.{net_for}
use Rattle.rcv_export.specs.RoleJson.{place_of}
use Rattle.rcv_export.proofs.Growing.{place_added}
use Rattle.rcv_export.proofs.role.places.Goals as goal

pub loop-before-preserved : goal.loop-before-preserved
loop-before-preserved c =
    place_added (net_for c.args.accepted.now) c.args.role (place_of c.args.accepted.now c.args.local.now) c.loop-before.before (map view c.loop-before.list.items) (map view c.push_place.new.list.items) c.loop-before.invariant c.in_ok-push_place.ensures
