-- What a round makes of places and tools.
use Rattle.std.specs.Prelude.{◌≡◌, ◌⊎◌, ◌<◌, ◌≤◌, ℕ, List, length, slice_index_or}

-- Each place may be run.
abbrev pub AreReady : {P : Type 0} → (P → Type 0) → List P → Type 0
AreReady ready places = (i : ℕ) (d : _) → i < length places → ready (slice_index_or places i d)

-- Any two of the tools are of one kind.
abbrev pub AreOfOneKind : {T : Type 0} → (T → T → Type 0) → List T → Type 0
AreOfOneKind like tools =
    (i j : ℕ) (d e : _) → i < length tools → j < length tools
    → like (slice_index_or tools i d) (slice_index_or tools j e)

-- Each tool is of the kind of the one that it was before.
abbrev pub AreLikeBefore : {T : Type 0} → (T → T → Type 0) → List T → List T → Type 0
AreLikeBefore like old new =
    (length new ≡ length old)
    × ((i : ℕ) (d : _) → i < length old → like (slice_index_or old i d) (slice_index_or new i d))

-- Each place is what one or more runs with this tool made of it, and may be run again.
abbrev pub HaveRun : {T P : Type 0} → (P → Type 0) → (T → P → P → Type 0) → T → List P → List P → Type 0
HaveRun ready ran tool old new =
    (length new ≡ length old)
    × AreReady ready new
    × ((i : ℕ) (d : _) → i < length old → ran tool (slice_index_or old i d) (slice_index_or new i d))

-- Each place is as it was or what one or more runs with this tool made of it, and may be run again.
abbrev pub HaveGone : {T P : Type 0} → (P → Type 0) → (T → P → P → Type 0) → T → List P → List P → Type 0
HaveGone ready ran tool old new =
    (length new ≡ length old)
    × AreReady ready new
    × ((i : ℕ) (d : _)
    → i < length old
    → (slice_index_or new i d ≡ slice_index_or old i d) ⊎ ran tool (slice_index_or old i d) (slice_index_or new i d))

-- Each place is what one or more runs with any of the tools made of it.
abbrev pub HaveRunWithEach : {T P : Type 0}
    → (P → Type 0) → (T → P → P → Type 0) → List T → List P → List P → Type 0
HaveRunWithEach ready ran tools old new =
    (k : ℕ) (t : _) → k < length tools → HaveRun ready ran (slice_index_or tools k t) old new

-- There is a tool, the tools are of one kind, and each place may be run.
abbrev pub CanBegin : {T P : Type 0} → (T → T → Type 0) → (P → Type 0) → List T → List P → Type 0
CanBegin like ready tools places = (1 ≤ length tools) × AreOfOneKind like tools × AreReady ready places

-- What workers make of their tools, which stay of their kinds, and of their places.
abbrev pub HaveWorked : {T P : Type 0}
    → (T → T → Type 0) → (P → Type 0) → (T → P → P → Type 0) → List T → List T → List P → List P → Type 0
HaveWorked like ready ran tools tools' old new = AreLikeBefore like tools tools' × HaveRunWithEach ready ran tools old new
