-- What contracts see of the points of a text: what each place offers, the message of each point, what each choice offers, and
-- the lanes of the text.
use Rattle.std.specs.Prelude.{◌≡◌, ℕ, ◌+◌, ◌-◌, ◌<◌, ◌≤◌, ◌⊎◌, ◌↔◌, ◌==◌, Bool, true, false, if◌then◌else◌, List, [], ◌∷◌, length, map, slice_index_or}
use Rattle.std.specs.List.Sorted.{IsStrictlyIncreasing}
use Rattle.rcv_model.specs.Text.{Body}
use Rattle.rcv_model.specs.Net.{Net, IsIn}
use Rattle.rcv_model.specs.Next.{IsOf, IsProper}
use Rattle.rcv_model.specs.Places.{Spot, SingleMessage, singles, offers_at, offers_of, spot_of, Lane, lanes_of, lane_in, net_of}
use Rattle.rcv_model.specs.Accept.{choices, IsFirstOf}

-- The message of a point, without the names of its sorts.
pub record PointView : Type 0 where
  pub label : List ℕ
  pub sender : ℕ
  pub receiver : ℕ
  pub payload : Bool  -- it has sorts

-- A role that is the subject of choices, and points that they offer.
pub record ChoiceView : Type 0 where
  pub subject : ℕ
  pub offered : List ℕ

-- A lane: the number of its stage, and the points that its start offers.
pub record LaneView : Type 0 where
  pub stage : ℕ
  pub begins : List ℕ

-- By place, from the start on: the points that can come next; by point: its message; what choices offer, by their subjects; the
-- lanes, in text order; and by place: the number of its lane.
pub record PointsView : Type 0 where
  pub places : List (List ℕ)
  pub messages : List PointView
  pub choices : List ChoiceView
  pub lanes : List LaneView
  pub lane_numbers : List ℕ

-- what a place offers
abbrev pub offered_at : PointsView → ℕ → List ℕ
offered_at points k = slice_index_or points.places k []

-- no message, whose ends differ too
abbrev pub no_message : PointView
no_message = record { label = []; sender = 0; receiver = 1; payload = false }

-- the message of a point, which counts from 1
abbrev pub message_at : PointsView → ℕ → PointView
message_at points p = if p == 0 then no_message else slice_index_or points.messages (p - 1) no_message

-- a lane without points
abbrev pub no_lane : LaneView
no_lane = record { stage = 0; begins = [] }

-- the lane with a number
abbrev pub lane_of : PointsView → ℕ → LaneView
lane_of points l = slice_index_or points.lanes l no_lane

-- The protocol that the points say.
abbrev pub net_in : PointsView → Net
net_in points =
    record {
      count = length points.messages;
      offers = offered_at points;
      sender = λ p. (message_at points p).sender;
      receiver = λ p. (message_at points p).receiver;
      label = λ p. (message_at points p).label;
      lane = λ p. slice_index_or points.lane_numbers p 0;
      stage = λ l. (lane_of points l).stage;
      begins = λ l. (lane_of points l).begins;
    }

-- What holds of all points: at most 256 of them, with a place after each; what places and lanes offer ascends and stands in the text; each
-- place has its lane; and the stages of lanes rise.
pub record AreWithin (points : PointsView) : Type 0 where
  pub few : length points.messages ≤ 256
  pub all : length points.places ≡ length points.messages + 1
  pub ascending : (k : ℕ) → IsStrictlyIncreasing (offered_at points k)
  pub begun_ascending : (l : ℕ) → IsStrictlyIncreasing ((net_in points).begins l)
  pub proper : IsProper (net_in points) 8
  pub few_lanes : length points.lanes ≤ 513
  pub numbered : length points.lane_numbers ≡ length points.messages + 1
  pub has_lane : (k : ℕ) → (net_in points).lane k < length points.lanes
  pub rising : (l m : ℕ) → l ≤ m → m < length points.lanes → (net_in points).stage l ≤ (net_in points).stage m

abbrev pub has_some : List (List ℕ) → Bool
has_some [] = false
has_some (n ∷ ns) = true

abbrev pub message_of : ℕ × SingleMessage → PointView
message_of e = record { label = e.1.label; sender = e.1.sender; receiver = e.1.receiver; payload = has_some e.1.sorts }

abbrev pub choice_of : ℕ × Spot → ChoiceView
choice_of e = record { subject = e.0; offered = offers_at e.1 }

abbrev pub lane_view : Lane → LaneView
lane_view l = record { stage = l.stage; begins = offers_of (spot_of l.body 0) }

-- Choices at role s offer the point.
abbrev pub IsChosen : List ChoiceView → ℕ → ℕ → Type 0
IsChosen [] s p = ⊥
IsChosen (v ∷ vs) s p = ((v.subject ≡ s) × IsIn p v.offered) ⊎ IsChosen vs s p

-- The points of the text at which the role sends or receives.
abbrev pub IsSetOfRole : Net → ℕ → List ℕ → Type 0
IsSetOfRole net r ps = (p : ℕ) → IsIn p ps ↔ ((1 ≤ p) × (p ≤ net.count) × IsOf net r p)

-- These are the points of a text. Each place offers what the definition says, and messages are those of the text. A role chooses a point if
-- the point is among the first points of some choice at the role. Lanes are the text's, and each place has its own.
pub record ArePointsOf (body : Body) (points : PointsView) : Type 0 where
  pub all : length points.places ≡ (net_of body).count + 1
  pub offered : (k : ℕ) → k ≤ (net_of body).count → offered_at points k ≡ (net_of body).offers k
  pub messages : points.messages ≡ map message_of (singles body)
  pub choices : (s p : ℕ) → IsChosen points.choices s p ↔ IsFirstOf (choices [] body) s p
  pub lanes : points.lanes ≡ map lane_view (lanes_of body)
  pub numbered : length points.lane_numbers ≡ (net_of body).count + 1
  pub lane_numbers : (k : ℕ) → k ≤ (net_of body).count → slice_index_or points.lane_numbers k 0 ≡ lane_in body k
