-- Where the points of an expansion are written.
use Rattle.std.specs.Prelude.{ℕ, ◌-◌, List, [], map, slice_index_or}
use Rattle.rcv_module.specs.declared.origin.Called.{Called}
use Rattle.rcv_module.specs.declared.origin.Origin.{Origin}
use Rattle.rcv_listing.specs.declared.written.PointLines.{PointLines}

-- The line of the receiver of a point that came from there, if the receivers of each protocol stand at these lines.
abbrev pub receiver_line : List (List ℕ) → Origin → ℕ
receiver_line receivers o = slice_index_or (slice_index_or receivers o.protocol []) (o.point - 1) 0

-- The lines of calls, if the words `do` of the module stand at these lines.
abbrev pub call_lines : List ℕ → List Called → List ℕ
call_lines dos calls = map (λ (c : Called). slice_index_or dos c.number 0) calls

-- Both of a point, and of points.
abbrev pub lines_of_point : List (List ℕ) → List ℕ → Origin → PointLines
lines_of_point receivers dos o = record { line = receiver_line receivers o; calls = call_lines dos o.calls.items }

abbrev pub lines_of_points : List (List ℕ) → List ℕ → List Origin → List PointLines
lines_of_points receivers dos os = map (lines_of_point receivers dos) os
