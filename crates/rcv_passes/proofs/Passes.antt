-- A pass that has come as far as some place.
use Rattle.std.proofs.Common.{◌≡◌, ℕ, ◌<◌, ◌≤◌, List, length, slice_index_or}
use Rattle.rcv_passes.specs.Round.{AreReady}

-- The first n places were run with this tool, and the others are as they were.
abbrev pub HaveRunBefore : {T P : Type 0} → (P → Type 0) → (T → P → P → Type 0) → T → ℕ → List P → List P → Type 0
HaveRunBefore ready ran tool n old new =
    (length new ≡ length old)
    × AreReady ready new
    × ((i : ℕ) (d : _) → i < length old → i < n → ran tool (slice_index_or old i d) (slice_index_or new i d))
    × ((i : ℕ) (d : _) → n ≤ i → slice_index_or new i d ≡ slice_index_or old i d)
