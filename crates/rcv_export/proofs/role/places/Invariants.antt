-- The places so far.
use Rattle.std.specs.Prelude.{◌≡◌, map}
use Rattle.serde_json.specs.View.{view}
use Rattle.rcv_accept.specs.Accepted.{net_for}
use Rattle.rcv_project.specs.LocalText.{places_to}
use Rattle.rcv_export.specs.RoleJson.{place_of}
use Rattle.rcv_export.proofs.role.places.Given as goal

abbrev pub invariant-loop-before : goal.invariant-loop-before
invariant-loop-before l = map view l.list.items ≡ map (place_of l.accepted l.local) (places_to (net_for l.accepted) l.role l.before)
