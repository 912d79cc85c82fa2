-- The points of an input's protocol as a JSON value, with what refuses the input. Keys are in order.
use Rattle.std.specs.Prelude.{◌≡◌, ℕ, List, [], length, map, slice_range, codes, if◌then◌else◌, Option, Some, None}
use Rattle.std.specs.List.{range_with_len}
use Rattle.serde_json.specs.Data.{Data, member, no_members, null, object}
use Rattle.rcv_tree.specs.declared.protocol.Protocol.{Protocol}
use Rattle.rcv_tree.specs.declared.refusal.Refusal.{Refusal}
use Rattle.rcv_tree.specs.declared.refusal.Refusal.TheVariants.{Rule}
use Rattle.rcv_tree.specs.Names.{name_at}
use Rattle.rcv_model.specs.Net.{Net}
use Rattle.rcv_model.specs.Text.{body_of}
use Rattle.rcv_model.specs.Places.{net_of}
use Rattle.rcv_model.specs.Accept.{IsRefusal}
use Rattle.rcv_accept.specs.Accepted.{IsAcceptedProtocol}
use Rattle.rcv_found.specs.Things.{ThingView, said_of}
use Rattle.rcv_found.specs.declared.wrong.Wrong.{Wrong}
use Rattle.rcv_listing.specs.declared.listing.Listing.{Listing}
use Rattle.rcv_listing.specs.declared.listing.Listing.TheVariants.{Accepted, RuledOut, HalfRead, Unread}
use Rattle.rcv_listing.specs.declared.unread.Unread as unread
use Rattle.rcv_listing.specs.declared.written.PointLines.{PointLines}
use Rattle.rcv_listing.specs.Lines.{calls_of, is_at_place}
use Rattle.rcv_listing.specs.Lines as lines
use Rattle.rcv_listing.specs.Unread.{IsUnread, IsHalfRead}
use Rattle.rcv_listing.specs.Listing.{IsSourceOf, AreRestRead}
use Rattle.rcv_export.specs.Pieces.{count, line_of, list_of, word_data, words_data}

-- A point: `{"calls":[LINE,..],"from":ROLE,"label":LABEL,"line":LINE,"point":POINT,"to":ROLE}`; and all of a text, in order.
abbrev pub point_data : List (List ℕ) → Net → List PointLines → ℕ → Data
point_data roles net written p =
    object (member (codes "calls") (list_of (map count (calls_of written p)))
    (member (codes "from") (word_data (name_at roles (net.sender p)))
    (member (codes "label") (word_data (net.label p))
    (member (codes "line") (count (lines.line_of written p))
    (member (codes "point") (count p)
    (member (codes "to") (word_data (name_at roles (net.receiver p))) no_members))))))

abbrev pub points_data : List (List ℕ) → Net → List PointLines → Data
points_data roles net written = list_of (map (point_data roles net written) (range_with_len 1 net.count))

-- What may stand at a wrong token, as the listing says it.
abbrev pub thing_data : ThingView → Data
thing_data t = word_data (said_of t)

abbrev pub may_data : List ThingView → Data
may_data things = list_of (map thing_data things)

-- A refusal at a wrong token, which is found there whole: `{"code":CODE,"column":COLUMN,"found":TOKEN,"line":LINE,"may":[THING,..]}`.
abbrev pub wrong_data : List ℕ → ℕ → ℕ → Wrong → Data
wrong_data input code line w =
    object (member (codes "code") (count code)
    (member (codes "column") (count w.spot.column)
    (member (codes "found") (word_data (slice_range input w.spot.span.start w.spot.span.end))
    (member (codes "line") (count line)
    (member (codes "may") (may_data w.may.items) no_members)))))

-- One at a letter or a call: `{"code":CODE,"line":LINE}`.
abbrev pub plain_data : ℕ → ℕ → Data
plain_data code line = object (member (codes "code") (count code) (member (codes "line") (count line) no_members))

-- One of a part that isn't read.
abbrev pub part_data : List ℕ → ℕ → ℕ → Option Wrong → Data
part_data input code line (Some w) = wrong_data input code line w
part_data input code line None = plain_data code line

abbrev pub unread_data : List ℕ → unread.Unread → Data
unread_data input u = part_data input u.code u.line u.wrong

-- One by a rule: `{"code":CODE,"place":PLACE,"role":ROLE}`, or with a point in place of the place.
abbrev pub at_data : List (List ℕ) → List ℕ → ℕ → ℕ → ℕ → Data
at_data roles key code role number =
    object (member (codes "code") (count code)
    (member key (count number)
    (member (codes "role") (word_data (name_at roles role)) no_members)))

abbrev pub rule_data : List (List ℕ) → ℕ → ℕ → ℕ → Data
rule_data roles code role number =
    if is_at_place code then at_data roles (codes "place") code role number else at_data roles (codes "point") code role number

-- A rule's refusal by its fields. No other refusal is one by a rule.
abbrev pub refusal_data : List (List ℕ) → Refusal → Data
refusal_data roles (Rule code role number) = rule_data roles code role number
refusal_data roles other = null

-- A protocol with what refuses it, or null: `{"points":[..],"protocol":NAME,"refused":..,"roles":[ROLE,..]}`.
abbrev pub protocol_data : List ℕ → List (List ℕ) → Net → List PointLines → Data → Data
protocol_data name roles net written refused =
    object (member (codes "points") (points_data roles net written)
    (member (codes "protocol") (word_data name)
    (member (codes "refused") refused
    (member (codes "roles") (words_data roles) no_members))))

-- A protocol that isn't read: `{"points":[],"refused":{..},"roles":[]}`.
abbrev pub no_protocol_data : Data → Data
no_protocol_data refused =
    object (member (codes "points") (list_of [])
    (member (codes "refused") refused
    (member (codes "roles") (list_of []) no_members)))

-- For an accepted protocol, whose points are given: its line, by whether the scripts and the plan are read.
abbrev pub IsSaidOf : List ℕ → Protocol → List (List ℕ) → Net → List PointLines → Listing → Type 0
IsSaidOf input p roles net written (Accepted text) =
    AreRestRead input p × (text.items ≡ line_of (protocol_data p.name roles net written null))
IsSaidOf input p roles net written (HalfRead text) =
    (u : unread.Unread) × IsHalfRead input p u × (text.items ≡ line_of (protocol_data p.name roles net written (unread_data input u)))
IsSaidOf input p roles net written (RuledOut text) = ⊥
IsSaidOf input p roles net written (Unread text) = ⊥

-- The refusal of a protocol by a rule, and the line that says it.
abbrev pub IsRuledOut : Protocol → List (List ℕ) → Net → List PointLines → List ℕ → Type 0
IsRuledOut p roles net written text =
    (code : ℕ) × (role : ℕ) × (number : ℕ) × IsRefusal (body_of p.body) (length p.roles) code role number
    × (text ≡ line_of (protocol_data p.name roles net written (rule_data roles code role number)))

-- The line of a protocol that was read: of an accepted one, or of one that a rule refuses.
abbrev pub IsJsonOf : List ℕ → Protocol → List PointLines → Listing → Type 0
IsJsonOf input p written (RuledOut text) = IsRuledOut p p.roles (net_of (body_of p.body)) written text.items
IsJsonOf input p written listing = IsAcceptedProtocol p × IsSaidOf input p p.roles (net_of (body_of p.body)) written listing

-- This is the line of the protocol in the input, or of a protocol part that isn't read.
abbrev pub IsJson : List ℕ → Listing → Type 0
IsJson input (Unread text) =
    (u : unread.Unread) × IsUnread input u × (text.items ≡ line_of (no_protocol_data (unread_data input u)))
IsJson input listing = (p : Protocol) × (written : List PointLines) × IsSourceOf input p written × IsJsonOf input p written listing
