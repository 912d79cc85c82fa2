-- What holds of the definitions.
use Rattle.std.specs.Prelude.{◌≡◌, map}
use Rattle.rcv_session.specs.Session.{SessionView}
use Rattle.rcv_export.specs.ReadBack.{IsReadAs}
use Rattle.rcv_costs.specs.declared.numbers.Costs.{Costs}
use Rattle.rcv_costs_json.specs.CostsJson.{costs_data, costs_json}
use Rattle.rcv_costs_json.specs.Told.{FitNumbers, told}

-- The line of costs is read as their value.
abbrev pub CostsAreReadBack : Type 0
CostsAreReadBack =
    (session : SessionView) (costs : Costs) → FitNumbers costs → IsReadAs (costs_json session costs) (costs_data session costs)

-- The value tells the step, and of each cost the role's name, the labels beside the crash, and the numbers.
pub record ValuesTellCosts : Type 0 where
  pub step : (session : SessionView) (a b : Costs) → costs_data session a ≡ costs_data session b → a.step ≡ b.step
  pub each : (session : SessionView) (a b : Costs) → costs_data session a ≡ costs_data session b
      → map (told session) a.list.items ≡ map (told session) b.list.items
