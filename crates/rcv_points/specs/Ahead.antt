-- What lies ahead of a role at a place.
use Rattle.std.specs.Prelude.{◌≡◌, ◌↔◌, ℕ, Bool, IsTrue, List, [], ◌∷◌, ◌++◌}
use Rattle.rcv_model.specs.Net.{Net, IsIn, IsWalk, IsEnded}
use Rattle.rcv_model.specs.Next.{HasNone, AreNext, Chain, seen_by, met_by}
use Rattle.rcv_points.specs.LaneSearch.{CanCome, CanEndPast}

-- Some walk from place k is ended and holds no point of the role.
abbrev pub MayEnd : Net → ℕ → ℕ → Type 0
MayEnd net r k = (w : List ℕ) × IsWalk net k w × IsEnded net k w × HasNone net r w

-- Some walk from place k comes to the point, and holds no point of the role before it.
abbrev pub MayComeTo : Net → ℕ → ℕ → ℕ → Type 0
MayComeTo net r k z = (w : List ℕ) × IsWalk net k (w ++ z ∷ []) × HasNone net r w

-- The role's next points at place k, and whether a walk may end before one.
pub record IsAhead (net : Net) (r k : ℕ) (zs : List ℕ) (may_end : Bool) : Type 0 where
  pub next : AreNext net r k zs
  pub ends : IsTrue may_end ↔ MayEnd net r k

-- All points that walks from place k come to with no point of the role before them, and whether a walk may end before one.
pub record IsReach (net : Net) (r k : ℕ) (come : List ℕ) (ends : Bool) : Type 0 where
  pub all : (z : ℕ) → IsIn z come ↔ MayComeTo net r k z
  pub end : IsTrue ends ↔ MayEnd net r k

-- The same along one lane, if these points are offered first.
pub record IsLaneReach (net : Net) (r : ℕ) (ps come : List ℕ) (ends : Bool) : Type 0 where
  pub all : (z : ℕ) → IsIn z come ↔ CanCome net r ps z
  pub end : IsTrue ends ↔ CanEndPast net r ps

-- At some place of the chain the role meets just these points.
abbrev pub IsMetBy : Net → ℕ → ℕ → List ℕ → Type 0
IsMetBy net r k wanted = (j : ℕ) × Chain (seen_by net r) r k j × (met_by net r j ≡ wanted)
