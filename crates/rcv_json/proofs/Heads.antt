-- The list that a head begins.
use Rattle.std.proofs.Common.{◌≡◌, ℕ, List, ◌++◌, append_assoc, subst}
use Rattle.rcv_tree.specs.declared.event.Event.{Event}
use Rattle.rcv_session.specs.Session.{SessionView}
use Rattle.rcv_json.specs.Heads.{head_json, rest_json, event_json}

-- how a list begins and what stands behind it are the event's where its role is the one that the beginning names
pub begun : (setup : SessionView) (t kind : List ℕ) (e : Event) (r : ℕ) → e.role ≡ r → (t ++ head_json setup kind r e.point) ++ rest_json e ≡ t ++ event_json setup kind e
begun setup t kind e r is =
    subst (λ q. (t ++ head_json setup kind q e.point) ++ rest_json e ≡ t ++ event_json setup kind e) is (append_assoc t (head_json setup kind e.role e.point) (rest_json e))
