-- Offered points are those of the text, and these are few.
use Rattle.std.proofs.Common.{◌≡◌, ℕ, ◌<◌, ◌≤◌, List, length, get_or, sym, ap, subst, arith}
use Rattle.rcv_model.specs.Net.{IsIn}
use Rattle.std.proofs.lemmas.List.{get_or_past}
use Rattle.rcv_points.specs.Follow.{PointsView, AreWithin, no_lane, net_in}
use Rattle.rcv_points.specs.Found.{AreInText}
use Rattle.rcv_points.proofs.Adding.{in_at}
use Rattle.rcv_points.proofs.Stages.{AreLanes}

-- a point of the text
pub record IsOfText (points : PointsView) (p : ℕ) : Type 0 where
  pub first : 1 ≤ p
  pub last : p ≤ length points.messages
  pub few : p ≤ 256

-- the point at an index of points of the text
pub listed_is : (points : PointsView) (xs : List ℕ) (i x : ℕ) → AreWithin points → AreInText (net_in points) xs → i < length xs → x ≡ get_or xs i 0 → IsOfText points x
listed_is points xs i x within text lt q =
    let a = text x (subst (λ y. IsIn y xs) (sym q) (in_at xs i lt)) in
    let few = within.few in
    let last = a.1 in
    record { first = a.0; last = last; few = omega (arith, last, few) }

-- the lanes of points are lanes
pub are_lanes : (points : PointsView) → AreWithin points → AreLanes (net_in points) (length points.lanes)
are_lanes points within = record { rising = within.rising; there = within.has_lane; beyond = λ l le. ap (λ v. v.begins) (get_or_past points.lanes l no_lane le) }
