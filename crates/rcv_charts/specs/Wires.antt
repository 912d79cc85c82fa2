-- The wires of a machine: from each step of a state to the state that holds the place after its point.
use Rattle.std.specs.Prelude.{◌≡◌, ◌<◌, ℕ, ◌+◌, List, [], ◌∷◌, ◌++◌, map, length, slice_index_or}
use Rattle.std.specs.List.{All}
use Rattle.rcv_model.specs.Net.{IsIn}
use Rattle.rcv_project.specs.Act.{Ended}
use Rattle.rcv_charts.specs.declared.wires.Wire.{Wire}
use Rattle.rcv_charts.specs.States.{StateView, StandTogether, next_in}

-- The state with a number, counted from 0; one without places if there is none.
abbrev pub state_at : List StateView → ℕ → StateView
state_at states i = slice_index_or states i (record { act = Ended; places = [] })

-- The wire with a number.
abbrev pub wire_at : List Wire → ℕ → Wire
wire_at wires i = slice_index_or wires i (record { from = 0; step = 0; point = 0; to = 0 })

-- One of these states has the place.
abbrev pub HavePlace : List StateView → ℕ → Type 0
HavePlace states k = StandTogether states k k

-- The place after each next point of each state is in one of them.
abbrev pub AreClosed : List StateView → Type 0
AreClosed states = All (λ (state : StateView). All (HavePlace states) (next_in state.act)) states

-- The steps of the states from number i on: each by the number of its state, and its point.
abbrev pub steps_from : ℕ → List StateView → List (ℕ × ℕ)
steps_from i [] = []
steps_from i (state ∷ states) = map (λ (z : ℕ). (i, z)) (next_in state.act) ++ steps_from (i + 1) states

abbrev pub step_of : Wire → ℕ × ℕ
step_of wire = (wire.from, wire.point)

-- The wire begins at a step of its state, which has its point, and leads to a state that has the place after that point.
pub record LeadsOn (states : List StateView) (wire : Wire) : Type 0 where
  pub step : wire.step < length (next_in (state_at states wire.from).act)
  pub point : slice_index_or (next_in (state_at states wire.from).act) wire.step 0 ≡ wire.point
  pub to : IsIn wire.point (state_at states wire.to).places

-- There is one wire for each step of each state, in order.
pub record AreWires (states : List StateView) (wires : List Wire) : Type 0 where
  pub each_step : map step_of wires ≡ steps_from 0 states
  pub lead : All (LeadsOn states) wires

-- After these wires come those of the state with number i.
pub record GetsWires (states : List StateView) (i : ℕ) (before after : List Wire) : Type 0 where
  pub each_step : map step_of after ≡ map step_of before ++ map (λ (z : ℕ). (i, z)) (next_in (state_at states i).act)
  pub lead : All (LeadsOn states) before → All (LeadsOn states) after
