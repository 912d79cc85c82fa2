-- What can come and end along lanes, of those that were searched.
use Rattle.std.specs.Prelude.{◌≡◌, ◌⊎◌, ℕ, ◌<◌, Bool, true, false, List, []}
use Rattle.rcv_model.specs.Net.{Net, IsIn, opened}
use Rattle.rcv_points.specs.Found.{IsWayFrom}

-- Along a lane that offers these points first, this one can come with no point of role r before it.
abbrev pub CanCome : Net → ℕ → List ℕ → ℕ → Type 0
CanCome net r ps z = IsIn z ps ⊎ ((j : ℕ) × IsWayFrom net r ps j × IsIn z (net.offers j))

-- And the lane can be brought to its end with no point of role r.
abbrev pub CanEndPast : Net → ℕ → List ℕ → Type 0
CanEndPast net r ps = (ps ≡ []) ⊎ ((j : ℕ) × IsWayFrom net r ps j × (net.offers j ≡ []))

-- The same after a place: what a lane offers there can be brought to its end; and a point can come in its lane, with each lane of an
-- earlier stage brought to its end.
abbrev pub EndsBehind : Net → ℕ → ℕ → ℕ → Type 0
EndsBehind net r k l = CanEndPast net r (opened net k l)

pub record ComesBehind (net : Net) (r k z : ℕ) : Type 0 where
  pub own : CanCome net r (opened net k (net.lane z)) z
  pub ends : (l : ℕ) → net.stage l < net.stage (net.lane z) → EndsBehind net r k l

-- The lanes before this one were searched. If one can't end, `last` is the stage of the first such.
pub record ReachedSoFar (net : Net) (r k lane : ℕ) (come : List ℕ) (ends : Bool) (last : ℕ) : Type 0 where
  pub sound : (z : ℕ) → IsIn z come → ComesBehind net r k z
  pub complete : (z : ℕ) → net.lane z < lane → ComesBehind net r k z → IsIn z come
  pub all_end : ends ≡ true → (l : ℕ) → l < lane → EndsBehind net r k l
  pub stuck : ends ≡ false → (s : ℕ) × (s < lane) × (net.stage s ≡ last) × (EndsBehind net r k s → ⊥)
  pub before : ends ≡ false → (l : ℕ) → l < lane → net.stage l < last → EndsBehind net r k l
