-- What a search has found so far, each place once.
use Rattle.std.specs.Prelude.{◌≡◌, ◌↔◌, ℕ, ◌+◌, ◌≤◌, ◌⊎◌, Bool, true, false, not, List, [], ◌∷◌, length, take, slice_index_or}
use Rattle.std.specs.List.{count_by}
use Rattle.rcv_tree.specs.Bits.{has_point, IsPoint}
use Rattle.rcv_model.specs.Net.{Net, IsIn, IsPrefix, IsLaneWalk, last_of}
use Rattle.rcv_model.specs.Next.{IsOf, HasNone}

-- Each of the first items has its flag, and each flag is of one of them; as many flags are left as there is room.
pub record AreOnce (flags : List Bool) (items : List ℕ) (count : ℕ) : Type 0 where
  pub flags_all : length flags ≡ 257
  pub items_all : length items ≡ 257
  pub flagged : (j : ℕ) → IsIn j (take count items) → slice_index_or flags j false ≡ true
  pub found : (j : ℕ) → slice_index_or flags j false ≡ true → IsIn j (take count items)
  pub room : count_by not flags + count ≡ 257

-- The same, and the set holds the points among the places that were found.
pub record AreFound (flags : List Bool) (items : List ℕ) (count : ℕ) (words : List ℕ) : Type 0 where
  pub once : AreOnce flags items count
  pub marked : (p : ℕ) → IsPoint p → has_point words p ≡ slice_index_or flags p false

-- this very number
abbrev pub Is : ℕ → ℕ → Type 0
Is p j = j ≡ p

-- After what was found come these, all of them and no others.
pub record Adds (These : ℕ → Type 0) (old now : List ℕ) : Type 0 where
  pub kept : IsPrefix old now
  pub all : (j : ℕ) → These j → IsIn j now
  pub only : (j : ℕ) → IsIn j now → IsIn j old ⊎ These j

-- It is a point of the text; and all of these are.
abbrev pub IsInText : Net → ℕ → Type 0
IsInText net p = (1 ≤ p) × (p ≤ net.count)

abbrev pub AreInText : Net → List ℕ → Type 0
AreInText net ps = (p : ℕ) → IsIn p ps → IsInText net p

-- The point is one of these, and isn't one of role r.
abbrev pub IsOther : Net → ℕ → List ℕ → ℕ → Type 0
IsOther net r ps p = IsIn p ps × (IsOf net r p → ⊥)

-- A walk within the lane of place k comes to place j, and holds no point of role r.
abbrev pub IsWay : Net → ℕ → ℕ → ℕ → Type 0
IsWay net r k j = (w : List ℕ) × IsLaneWalk net k w × HasNone net r w × (last_of k w ≡ j)

-- The same, if one of these points comes first.
abbrev pub IsWayFrom : Net → ℕ → List ℕ → ℕ → Type 0
IsWayFrom net r ps j = (s : ℕ) × IsOther net r ps s × IsWay net r s j

-- The places that can come if these points are offered first, with no point of role r.
abbrev pub ArePlacesFrom : Net → ℕ → List ℕ → List ℕ → Type 0
ArePlacesFrom net r ps js = (j : ℕ) → IsIn j js ↔ IsWayFrom net r ps j

-- Some of these places offers the point.
abbrev pub IsOfferedBy : Net → List ℕ → ℕ → Type 0
IsOfferedBy net js p = (j : ℕ) × IsIn j js × IsIn p (net.offers j)

-- Some of these places offers nothing.
abbrev pub HasEnd : Net → List ℕ → Type 0
HasEnd net js = (j : ℕ) × IsIn j js × (net.offers j ≡ [])

-- This point is offered alone, and isn't one of role r.
abbrev pub IsForced : Net → ℕ → List ℕ → ℕ → Type 0
IsForced net r ps p = (ps ≡ p ∷ []) × (IsOf net r p → ⊥)

-- A point of the text offers nothing after it; or it offers this one.
abbrev pub IsEndPoint : Net → ℕ → Type 0
IsEndPoint net k = IsInText net k × (net.offers k ≡ [])

abbrev pub LeadsTo : Net → ℕ → ℕ → Type 0
LeadsTo net p k = IsInText net k × IsIn p (net.offers k)
