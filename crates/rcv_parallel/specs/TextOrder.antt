-- Walks in text order: lane after lane. And the points of a walk, sorted by lanes.
use Rattle.std.specs.Prelude.{◌≡◌, ℕ, zero, suc, ◌<◌, ◌≤◌, ◌==◌, List, [], ◌∷◌, ◌++◌}
use Rattle.std.specs.List.{filter}
use Rattle.rcv_tree.specs.declared.event.Event.{Event}
use Rattle.rcv_model.specs.Net.{Net, IsIn, IsLaneWalk, IsLaneEnded, IsPrefix}
use Rattle.rcv_model.specs.Next.{IsOf, HasNone, IsProper}
use Rattle.rcv_model.specs.Run.{part, acts, IsQueued}

-- A proper net with so many lanes: each place and point stands in one of them, and stages rise with the lanes' numbers.
pub record HasLanesInOrder (net : Net) (roles lanes : ℕ) : Type 0 where
  pub proper : IsProper net roles
  pub has_lane : (p : ℕ) → net.lane p < lanes
  pub rising : (l m : ℕ) → l ≤ m → m < lanes → net.stage l ≤ net.stage m

-- A walk within lane l from its start: the first point is one that the lane begins with, and each other one is offered at the
-- place after the point before it.
abbrev pub IsWalkFromStart : Net → ℕ → List ℕ → Type 0
IsWalkFromStart net l [] = Unit {0}
IsWalkFromStart net l (p ∷ w) = IsIn p (net.begins l) × IsLaneWalk net p w

-- It is ended if nothing is offered at its last point. Without a point, it is ended if the lane begins with nothing.
abbrev pub IsEndedFromStart : Net → ℕ → List ℕ → Type 0
IsEndedFromStart net l [] = net.begins l ≡ []
IsEndedFromStart net l (p ∷ w) = IsLaneEnded net p w

-- What a walk from place k has in lane l is ended: a walk from k in the lane of k, one from the lane's start in a lane of a
-- later stage. In each other lane there is nothing to end.
pub record IsEndedIn (net : Net) (k l : ℕ) (w : List ℕ) : Type 0 where
  pub own : l ≡ net.lane k → IsLaneEnded net k w
  pub later : net.stage (net.lane k) < net.stage l → IsEndedFromStart net l w

-- What a walk from place k has in each lane: a walk from k in the lane of k, walks from their starts in lanes of later
-- stages, and nothing in other lanes. If a lane has a point, each lane of an earlier stage is ended.
pub record AreLaneWalks (net : Net) (lanes k : ℕ) (walks : ℕ → List ℕ) : Type 0 where
  pub own : IsLaneWalk net k (walks (net.lane k))
  pub later : (l : ℕ) → l < lanes → net.stage (net.lane k) < net.stage l → IsWalkFromStart net l (walks l)
  pub shut : (l : ℕ) → l < lanes → (l ≡ net.lane k → ⊥) → net.stage l ≤ net.stage (net.lane k) → walks l ≡ []
  pub in_turn : (l m : ℕ) → l < lanes → m < lanes → net.stage l < net.stage m → (walks m ≡ [] → ⊥) → IsEndedIn net k l (walks l)

-- The first n lists, one after another.
abbrev pub joined : ℕ → (ℕ → List ℕ) → List ℕ
joined zero lists = []
joined (suc n) lists = joined n lists ++ lists n

-- A walk from place k in text order: what it has in each lane, joined by the lanes' numbers.
pub record IsInTextOrder (net : Net) (lanes k : ℕ) (w : List ℕ) : Type 0 where
  pub walks : ℕ → List ℕ
  pub are : AreLaneWalks net lanes k walks
  pub whole : joined lanes walks ≡ w

-- It is ended if each of its lane walks is.
abbrev pub AreEnded : Net → ℕ → ℕ → (ℕ → List ℕ) → Type 0
AreEnded net lanes k walks = (l : ℕ) → l < lanes → IsEndedIn net k l (walks l)

-- The points of a lane in a list, in their order.
abbrev pub in_lane : Net → List ℕ → ℕ → List ℕ
in_lane net w l = filter (λ p. net.lane p == l) w

-- The list sorted by lanes: the points of lane 0, then those of lane 1, and so on.
abbrev pub by_lanes : Net → ℕ → List ℕ → List ℕ
by_lanes net lanes w = joined lanes (in_lane net w)

-- The events follow a walk in text order.
pub record FollowsTextOrder (net : Net) (lanes : ℕ) (h : List Event) : Type 0 where
  pub walk : List ℕ
  pub in_order : IsInTextOrder net lanes 0 walk
  pub parts : (r : ℕ) → IsPrefix (acts r h) (part net r walk)
  pub queued : IsQueued net h

-- From place k role r can come to the point z on a walk in text order, with no point of its own before it.
pub record IsNextInOrder (net : Net) (lanes r k z : ℕ) : Type 0 where
  pub way : List ℕ
  pub in_order : IsInTextOrder net lanes k (way ++ z ∷ [])
  pub none : HasNone net r way
  pub own : IsOf net r z
