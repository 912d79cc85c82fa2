-- What contracts see of the line of a text.
use Rattle.std.specs.Prelude.{◌≡◌, ℕ, ◌+◌, ◌≤◌, List, [], length, slice_index_or}
use Rattle.rcv_model.specs.Net.{Net}
use Rattle.rcv_points.specs.Follow.{PointsView, net_in}
use Rattle.rcv_tables.specs.Line.{line, offered_on}

-- The line of the protocol that the points say.
abbrev pub line_in : PointsView → Net
line_in points = line (net_in points)

-- These lists have what the line offers, by place.
pub record AreOnLine (points : PointsView) (places : List (List ℕ)) : Type 0 where
  pub all : length places ≡ length points.messages + 1
  pub each : (k : ℕ) → k ≤ length points.messages → slice_index_or places k [] ≡ offered_on (net_in points) k

-- The line offers the same at two places, and the second isn't after the first.
abbrev pub IsTwinOn : List (List ℕ) → ℕ → ℕ → Type 0
IsTwinOn places k twin = (twin ≤ k) × (slice_index_or places twin [] ≡ slice_index_or places k [])
