-- Costs name what the protocol declares.
use Rattle.std.specs.Prelude.{ℕ, ◌<◌, ◌≤◌, Option, None, Some, List}
use Rattle.std.specs.List.{All}
use Rattle.rcv_session.specs.Session.{SessionView, roles_of, net_for}
use Rattle.rcv_accept.specs.Accepted.{IsAcceptedProtocol}
use Rattle.rcv_costs.specs.declared.numbers.Cost.{Cost}
use Rattle.rcv_costs.specs.declared.numbers.Costs.{Costs}
use Rattle.rcv_costs.specs.Costs.{AreCosts}

-- The point is one of the text, if there is one.
abbrev pub IsNamedPoint : SessionView → Option ℕ → Type 0
IsNamedPoint session None = Unit {0}
IsNamedPoint session (Some p) = (1 ≤ p) × (p ≤ (net_for session).count)

-- The role is declared, and the points are of the text.
pub record IsNamedCost (session : SessionView) (cost : Cost) : Type 0 where
  pub role : cost.role < roles_of session
  pub before : IsNamedPoint session cost.before
  pub after : IsNamedPoint session cost.after

abbrev pub AreNamedCosts : SessionView → List Cost → Type 0
AreNamedCosts session costs = All (IsNamedCost session) costs

-- The same holds for the costs of a session.
abbrev pub CostsAreNamed : Type 0
CostsAreNamed =
    (session : SessionView) (costs : Costs) → IsAcceptedProtocol session.protocol → AreCosts session costs
    → AreNamedCosts session costs.list.items
