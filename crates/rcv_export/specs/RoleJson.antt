-- The machine of a role as a JSON value: what the role does at each of its places, and which points can come next there. Place 0
-- is the start. The event of a step leads the role to the place that has the number of the step's point. Keys are in order.
use Rattle.std.specs.Prelude.{ℕ, if◌then◌else◌, List, [], ◌∷◌, map, codes}
use Rattle.serde_json.specs.Data.{Data, boolean, member, no_members, object, string}
use Rattle.rcv_tree.specs.declared.event.Dir.{Dir}
use Rattle.rcv_tree.specs.declared.event.Dir.TheVariants.{Sent, Got}
use Rattle.rcv_tree.specs.Names.{name_at}
use Rattle.rcv_model.specs.Net.{Net}
use Rattle.rcv_points.specs.Follow.{has_some}
use Rattle.rcv_accept.specs.Accepted.{AcceptedView, net_for, text_of}
use Rattle.rcv_project.specs.Act.{ActView, Sending, Receiving, Ended}
use Rattle.rcv_project.specs.Local.{LocalView, act_at}
use Rattle.rcv_project.specs.LocalText.{is_own, places_to}
use Rattle.rcv_export.specs.Messages.{sorts_at}
use Rattle.rcv_export.specs.Pieces.{count, line_of, list_of, word_data, words_data}

-- The role at the other end of a point that is sent or received.
abbrev pub peer_of : Net → Dir → ℕ → ℕ
peer_of net Sent p = net.receiver p
peer_of net Got p = net.sender p

abbrev pub role_name : AcceptedView → ℕ → Data
role_name accepted r = word_data (name_at accepted.protocol.roles r)

-- A step: `{"label":LABEL,"peer":ROLE,"point":POINT,"sorts":[SORT,..],"value":BOOL}`. A message carries a value if it has sorts.
abbrev pub step_data : AcceptedView → Dir → ℕ → Data
step_data accepted dir p =
    object (member (codes "label") (word_data ((net_for accepted).label p))
    (member (codes "peer") (role_name accepted (peer_of (net_for accepted) dir p))
    (member (codes "point") (count p)
    (member (codes "sorts") (words_data (sorts_at (text_of accepted) p))
    (member (codes "value") (boolean (has_some (sorts_at (text_of accepted) p))) no_members)))))

abbrev pub steps_data : AcceptedView → Dir → List ℕ → Data
steps_data accepted dir ps = list_of (map (step_data accepted dir) ps)

-- What the role does at a place: `{"act":"send","next":[STEP,..],"place":PLACE}`, the same with `receive` and `"peer":ROLE`, or
-- `{"act":"done","next":[],"place":PLACE}`.
abbrev pub place_data : AcceptedView → ℕ → ActView → Data
place_data accepted k (Sending ps) =
    object (member (codes "act") (string (codes "send"))
    (member (codes "next") (steps_data accepted Sent ps)
    (member (codes "place") (count k) no_members)))
place_data accepted k (Receiving from ps) =
    object (member (codes "act") (string (codes "receive"))
    (member (codes "next") (steps_data accepted Got ps)
    (member (codes "peer") (role_name accepted from)
    (member (codes "place") (count k) no_members))))
place_data accepted k Ended =
    object (member (codes "act") (string (codes "done"))
    (member (codes "next") (list_of [])
    (member (codes "place") (count k) no_members)))

-- What the machine says of a place.
abbrev pub place_of : AcceptedView → LocalView → ℕ → Data
place_of accepted local k = place_data accepted k (act_at local k)

-- The same in a list, if the point is the role's, else nothing.
abbrev pub own_place : AcceptedView → ℕ → LocalView → ℕ → List Data
own_place accepted r local k = if is_own (net_for accepted) r k then place_of accepted local k ∷ [] else []

-- The whole machine, with an element for each place of the role: `{"places":[..],"protocol":NAME,"role":ROLE}`.
abbrev pub role_data : AcceptedView → LocalView → Data
role_data accepted local =
    object (member (codes "places")
    (list_of (map (place_of accepted local) (places_to (net_for accepted) local.role (net_for accepted).count)))
    (member (codes "protocol") (word_data accepted.protocol.name)
    (member (codes "role") (role_name accepted local.role) no_members)))

-- Its line.
abbrev pub role_json : AcceptedView → LocalView → List ℕ
role_json accepted local = line_of (role_data accepted local)
