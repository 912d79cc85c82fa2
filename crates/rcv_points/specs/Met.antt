-- A role's lanes, and where the next one is.
use Rattle.std.specs.Prelude.{◌≡◌, ℕ, ◌+◌, ◌≤◌, ◌==◌, if◌then◌else◌, []}
use Rattle.rcv_model.specs.Net.{Net}
use Rattle.rcv_model.specs.Next.{IsOf}

-- A point of the role stands in the lane.
abbrev pub HasOwn : Net → ℕ → ℕ → Type 0
HasOwn net r l = (p : ℕ) × (1 ≤ p) × (p ≤ net.count) × IsOf net r p × (net.lane p ≡ l)

-- The stages after a place. All stages come after the start.
abbrev pub next_stage : Net → ℕ → ℕ
next_stage net k = if k == 0 then 0 else net.stage (net.lane k) + 1

-- The role's lane may be the next one: it begins with something.
abbrev pub IsNextLane : Net → ℕ → ℕ → ℕ → Type 0
IsNextLane net r k p = IsOf net r p × (next_stage net k ≤ net.stage (net.lane p)) × (net.begins (net.lane p) ≡ [] → ⊥)
