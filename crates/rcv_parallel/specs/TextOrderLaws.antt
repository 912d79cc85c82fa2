-- Laws: walks are walks in text order, except for the order of points of lanes that go side by side.
use Rattle.std.specs.Prelude.{◌≡◌, ℕ, ◌≤◌, ◌↔◌, List, length}
use Rattle.rcv_tree.specs.declared.event.Event.{Event}
use Rattle.rcv_model.specs.Text.{Body}
use Rattle.rcv_model.specs.Places.{lanes_of, HasNoPar, net_of}
use Rattle.rcv_model.specs.Form.{HasForm}
use Rattle.rcv_model.specs.Net.{Net, IsWalk, IsEnded, IsLaneWalk, IsLaneEnded, HasOneLane}
use Rattle.rcv_model.specs.Next.{IsNext}
use Rattle.rcv_model.specs.Run.{part, IsRun}
use Rattle.rcv_parallel.specs.TextOrder.{HasLanesInOrder, IsInTextOrder, AreEnded, by_lanes, FollowsTextOrder, IsNextInOrder}

-- The lanes of a text with `HasForm` are in order.
abbrev pub FormHasLanesInOrder : Type 0
FormHasLanesInOrder = (body : Body) (roles : ℕ) → HasForm body roles → HasLanesInOrder (net_of body) roles (length (lanes_of body))

-- Each walk in text order is a walk. It is ended as a walk exactly if it is ended in text order.
abbrev pub TextOrderIsAWalk : Type 0
TextOrderIsAWalk =
    (net : Net) (roles lanes k : ℕ) (w : List ℕ) → HasLanesInOrder net roles lanes → (t : IsInTextOrder net lanes k w)
    → IsWalk net k w × (AreEnded net lanes k t.walks ↔ IsEnded net k w)

-- Each walk, sorted by lanes, is a walk in text order. That is ended exactly if the walk is.
abbrev pub WalksSortIntoTextOrder : Type 0
WalksSortIntoTextOrder =
    (net : Net) (roles lanes k : ℕ) (w : List ℕ) → HasLanesInOrder net roles lanes → IsWalk net k w
    → (t : IsInTextOrder net lanes k (by_lanes net lanes w)) × (AreEnded net lanes k t.walks ↔ IsEnded net k w)

-- So walks in text order are the walks that are sorted.
abbrev pub TextOrderIsSorted : Type 0
TextOrderIsSorted =
    (net : Net) (roles lanes k : ℕ) (w : List ℕ) → HasLanesInOrder net roles lanes
    → IsInTextOrder net lanes k w ↔ (IsWalk net k w × (by_lanes net lanes w ≡ w))

-- Sorting keeps what each role does in a walk, and its order.
abbrev pub SortingKeepsEachRole : Type 0
SortingKeepsEachRole =
    (net : Net) (roles lanes k r : ℕ) (w : List ℕ) → HasLanesInOrder net roles lanes → IsWalk net k w
    → part net r (by_lanes net lanes w) ≡ part net r w

-- So events are a run exactly if they follow a walk in text order.
abbrev pub RunsFollowTextOrder : Type 0
RunsFollowTextOrder =
    (net : Net) (roles lanes : ℕ) (h : List Event) → HasLanesInOrder net roles lanes → IsRun net h ↔ FollowsTextOrder net lanes h

-- And a role's next points are those on walks in text order.
abbrev pub NextFollowsTextOrder : Type 0
NextFollowsTextOrder =
    (net : Net) (roles lanes r k z : ℕ) → HasLanesInOrder net roles lanes → IsNext net r k z ↔ IsNextInOrder net lanes r k z

-- If there is one lane, walks in text order are those of the lane, and they are ended exactly if those are.
abbrev pub OneLaneNeedsNoOrder : Type 0
OneLaneNeedsNoOrder =
    (net : Net) (lanes k : ℕ) (w : List ℕ) → HasOneLane net → 1 ≤ lanes
    → (IsInTextOrder net lanes k w ↔ IsLaneWalk net k w)
    × ((t : IsInTextOrder net lanes k w) → AreEnded net lanes k t.walks ↔ IsLaneEnded net k w)

-- The same holds for a text without par.
abbrev pub TextsWithoutParNeedNoOrder : Type 0
TextsWithoutParNeedNoOrder =
    (body : Body) (k : ℕ) (w : List ℕ) → HasNoPar body
    → let net = net_of body in let lanes = length (lanes_of body) in (IsInTextOrder net lanes k w ↔ IsLaneWalk net k w)
    × ((t : IsInTextOrder net lanes k w) → AreEnded net lanes k t.walks ↔ IsLaneEnded net k w)
