-- The places of a role.
use Rattle.std.proofs.Common.{◌≡◌, ℕ, ◌≤◌, length, subst, inr}
use Rattle.rcv_model.specs.Net.{Net}
use Rattle.rcv_model.specs.Next.{IsOf, IsPlaceOf}
use Rattle.rcv_points.specs.Follow.{PointsView, net_in}

-- a point of the text at which the role sends or receives is a place of it
pub place_of : (points : PointsView) (role at : ℕ) → 1 ≤ at → at ≤ length points.messages → IsOf (net_in points) role at → IsPlaceOf (net_in points) role at
place_of points role at first last own = inr (first, last, own)

-- the points of a protocol say its places
pub place_in : (points : PointsView) (net : Net) (role at : ℕ) → net_in points ≡ net → IsPlaceOf (net_in points) role at → IsPlaceOf net role at
place_in points net role at same is = subst (λ (n : Net). IsPlaceOf n role at) same is
