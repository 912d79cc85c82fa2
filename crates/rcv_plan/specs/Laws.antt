-- What holds of each list of symbols, and of each plan that was read.
use Rattle.std.specs.Prelude.{◌≡◌, ℕ, ◌*◌, ◌≤◌, ◌⊎◌, List, length}
use Rattle.std.specs.List.{sum_by, range_with_len}
use Rattle.rcv_model.specs.Plan.{PlanLine, crashes_in}
use Rattle.rcv_plan.specs.Symbols.{Symbol}
use Rattle.rcv_plan.specs.declared.fault.Fault.{Fault}
use Rattle.rcv_plan.specs.Lines.{IsPlanned}
use Rattle.rcv_plan.specs.Refusing.{IsFirst, IsRead}

-- The symbols are read as a plan, or there is a first and least code.
abbrev pub IsAnswered : List (List ℕ) → List Symbol → Type 0
IsAnswered roles symbols =
    ((lines : List PlanLine) × IsRead roles symbols lines) ⊎ ((f : Fault) × (left : List Symbol) × IsFirst roles symbols f left)

-- A plan is read or refused, never both; what is read is one list of lines, and there is one first and least code.
pub record PlansHaveOneAnswer : Type 0 where
  pub answered : (roles : List (List ℕ)) (symbols : List Symbol) → IsAnswered roles symbols
  pub lines : (roles : List (List ℕ)) (symbols : List Symbol) (l m : List PlanLine)
      → IsRead roles symbols l → IsRead roles symbols m → l ≡ m
  pub either : (roles : List (List ℕ)) (symbols : List Symbol) (lines : List PlanLine) (f : Fault) (left : List Symbol)
      → IsRead roles symbols lines → IsFirst roles symbols f left → ⊥
  pub first : (roles : List (List ℕ)) (symbols : List Symbol) (f g : Fault) (left other : List Symbol)
      → IsFirst roles symbols f left → IsFirst roles symbols g other → (f ≡ g) × (left ≡ other)

-- In such a plan a role has at most 100,064 crash lines, and so many roles have at most that many each.
pub record PlansAreShort : Type 0 where
  pub role : (roles : ℕ) (plan : List PlanLine) (r : ℕ) → IsPlanned roles plan → length (crashes_in plan r) ≤ 100064
  pub all : (roles : ℕ) (plan : List PlanLine) (m : ℕ) → IsPlanned roles plan
      → sum_by (λ r. length (crashes_in plan r)) (range_with_len 0 m) ≤ m * 100064

-- What is read fits the roles that are declared, and no role crashes twice at one count.
abbrev pub ReadPlansArePlanned : Type 0
ReadPlansArePlanned =
    (roles : List (List ℕ)) (symbols : List Symbol) (lines : List PlanLine) → IsRead roles symbols lines → IsPlanned (length roles) lines
