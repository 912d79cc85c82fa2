-- What contracts see of a watch.
use Rattle.std.specs.Prelude.{◌≡◌, ℕ, List, [], ◌∷◌, ◌++◌, All}
use Rattle.atomic_table.specs.Seated.{TableId}

-- which fence it is
abbrev pub FenceId : Type 0
FenceId = TableId

-- The fence that it is of, how often it looked, the word that its last look loaded, the words that all its looks loaded,
-- in order, and the words that it wrote.
pub record Shown : Type 0 where
  pub fence : FenceId
  pub looks : ℕ
  pub last : ℕ
  pub seen : List ℕ
  pub raised : List ℕ

-- A watch of this fence that has done nothing yet.
abbrev pub fresh : FenceId → Shown
fresh id = record { fence = id; looks = 0; last = 0; seen = []; raised = [] }

-- All are watches of one fence, and have done nothing yet.
abbrev pub AreFreshOfOneFence : List Shown → Type 0
AreFreshOfOneFence watches = (id : FenceId) × All (λ (w : Shown). w ≡ fresh id) watches

-- The watch has written this word, and has done nothing else.
abbrev pub with_raised : Shown → ℕ → Shown
with_raised watch word = record watch { raised = watch.raised ++ word ∷ [] }
