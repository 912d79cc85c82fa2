-- Which choice stands in the way of a role's next send.
use Rattle.std.specs.Prelude.{◌≡◌, ℕ, List, ◌∷◌}
use Rattle.rcv_model.specs.Net.{Net}
use Rattle.rcv_points.specs.Ahead.{IsMetBy}

-- There are at least two of these points, and this is the first. On its chain from place k role r meets just these: there the text goes on
-- in different ways, so a choice begins there.
abbrev pub IsForkOf : Net → ℕ → ℕ → List ℕ → ℕ → Type 0
IsForkOf net r k ps p = (q : ℕ) × (more : List ℕ) × (ps ≡ p ∷ q ∷ more) × IsMetBy net r k ps

-- The chain of role r from place k comes to a choice with this first message.
abbrev pub IsInTheWay : Net → ℕ → ℕ → ℕ → Type 0
IsInTheWay net r k p = (ps : List ℕ) × IsForkOf net r k ps p
