-- What a plan keeps beside its lines: what they say of each role.
use Rattle.std.specs.Prelude.{◌≡◌, ℕ, ◌≤◌, ◌<◌, List, [], ◌∷◌, length, slice_get, Some}
use Rattle.std.specs.List.Sorted.{IsNonDecreasing, IsPermutation}
use Rattle.rcv_tree.specs.Bits.{has_bit, is_listed}
use Rattle.rcv_model.specs.Plan.{PlanLine, every_in, limit_in, room_in, crashes_in, host_in}
use Rattle.rcv_plan.specs.declared.plan.Row.{Row}
use Rattle.rcv_plan.specs.Lines.{IsPlanFor}

-- The set has the role and those of its host, and no other.
abbrev pub IsGroup : List PlanLine → ℕ → ℕ → Type 0
IsGroup plan r set = (q : ℕ) → q < 8 → has_bit set q ≡ is_listed (r ∷ host_in plan r) q

-- What the lines say of a role: its crash counts ascend.
pub record IsRow (plan : List PlanLine) (r : ℕ) (row : Row) : Type 0 where
  pub every : row.every ≡ every_in plan r
  pub group : IsGroup plan r row.group.0
  pub ascending : IsNonDecreasing row.crashes.items
  pub crashes : IsPermutation (crashes_in plan r) row.crashes.items

-- The lines say of the role what no line says, the defaults.
pub record IsSilentOn (plan : List PlanLine) (r : ℕ) : Type 0 where
  pub every : every_in plan r ≡ 1
  pub crashes : crashes_in plan r ≡ []
  pub host : host_in plan r ≡ []

pub record IsPlanMade (plan : List PlanLine) (rows : List Row) (limit room : ℕ) : Type 0 where
  pub fits : IsPlanFor (length rows) plan
  pub few : length rows ≤ 8
  pub each : (r : ℕ) (row : Row) → slice_get rows r ≡ Some row → IsRow plan r row
  pub limit_is : limit ≡ limit_in plan
  pub room_is : room ≡ room_in plan
