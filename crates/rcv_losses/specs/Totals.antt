-- What the costs of a role come to, and which is the worst.
use Rattle.std.specs.Prelude.{◌≡◌, ℕ, ◌-◌, ◌^◌, ◌<◌, ◌≤◌, ◌==◌, min, nat_lt, if◌then◌else◌, Option, MatchOption, None, Some, List, [], ◌∷◌, ◌++◌}
use Rattle.std.specs.List.{All, sum_by, filter}
use Rattle.rcv_session.specs.Session.{SessionView}
use Rattle.rcv_costs.specs.declared.numbers.Cost.{Cost}
use Rattle.rcv_costs.specs.declared.numbers.Costs.{Costs}
use Rattle.rcv_costs.specs.Costs.{AreCosts}
use Rattle.rcv_costs.specs.Named.{IsNamedCost}

-- The costs of a role's crashes.
abbrev pub costs_by : ℕ → List Cost → List Cost
costs_by r costs = filter (λ cost. cost.role == r) costs

-- How many events they undo in all, each of them by itself.
abbrev pub undone_in_all : List Cost → ℕ
undone_in_all costs = sum_by (λ cost. cost.undone) costs

-- How many would be undone if everybody were restarted after each of them: all that are kept then. The greatest number of 64 bits
-- stands for each greater one.
abbrev pub kept_in_all : List Cost → ℕ
kept_in_all costs = min (sum_by (λ cost. cost.kept) costs) (2 ^ 64 - 1)

-- The worse one of two costs: the one that undoes more events, and of those that undo as many the first.
abbrev pub worse : Option Cost → Cost → Option Cost
worse None cost = Some cost
worse (Some best) cost = if nat_lt best.undone cost.undone then Some cost else Some best

-- The worst of these and of one before them.
abbrev pub worst_after : Option Cost → List Cost → Option Cost
worst_after best [] = best
worst_after best (cost ∷ costs) = worst_after (worse best cost) costs

abbrev pub worst_of : List Cost → Option Cost
worst_of costs = worst_after None costs

-- The worst one, if there is one, names what the protocol declares.
abbrev pub IsNamedWorst : SessionView → Option Cost → Type 0
IsNamedWorst session None = Unit {0}
IsNamedWorst session (Some cost) = IsNamedCost session cost

-- The cost is among these; none of them undoes more events, and none before it as many.
pub record IsWorst (costs : List Cost) (cost : Cost) : Type 0 where
  pub front : List Cost
  pub back : List Cost
  pub among : costs ≡ front ++ cost ∷ back
  pub less : All (λ c. c.undone < cost.undone) front
  pub most : All (λ c. c.undone ≤ cost.undone) back

-- What is found is the worst, and there is one if there are costs.
abbrev pub TheWorstIsFound : Type 0
TheWorstIsFound = (costs : List Cost) → MatchOption (worst_of costs) (costs ≡ []) (IsWorst costs)

-- Each crash of a session undoes at most what restarting everybody would, and so do the crashes of a role together.
pub record RestartingCostsNoLess : Type 0 where
  pub each : (session : SessionView) (costs : Costs) → AreCosts session costs → All (λ c. c.undone ≤ c.kept) costs.list.items
  pub together : (session : SessionView) (costs : Costs) (r : ℕ) → AreCosts session costs
      → undone_in_all (costs_by r costs.list.items) < 2 ^ 64
      → undone_in_all (costs_by r costs.list.items) ≤ kept_in_all (costs_by r costs.list.items)
