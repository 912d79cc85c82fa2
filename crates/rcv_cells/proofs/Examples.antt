-- A watch that has lowered its fence, one that has raised it since, and a round that leaves a cell out.
use Rattle.std.proofs.Common.{◌≡◌, ℕ, List, [], ◌∷◌, ◌++◌, length, refl, ap, arith, length-append}
use Rattle.rcv_fence.specs.Shown.{FenceId, Shown, fresh, with_raised}
use Rattle.rcv_role.specs.Cell.{CellView}
use Rattle.rcv_cells.specs.Running.{IsLowered, HaveRun}

has_lowered : (fence : FenceId) → IsLowered (with_raised (with_raised (fresh fence) 257) 0)
has_lowered fence = record { before = 257 ∷ []; last = refl }

has_raised_since : (fence : FenceId) → IsLowered (with_raised (with_raised (fresh fence) 0) 257) → ⊥
has_raised_since fence lowered = go lowered.before lowered.last
  where
    go : (before : List ℕ) → 0 ∷ 257 ∷ [] ≡ before ++ 0 ∷ [] → ⊥
    go [] e = absurd (cc)
    go (x ∷ []) e = absurd (cc)
    go (x ∷ y ∷ rest) e = absurd (let n = ap length e in omega (arith, length-append rest (0 ∷ []), n))

one_is_left_out : (watch : Shown) (cell : CellView) → HaveRun watch (cell ∷ []) [] → ⊥
one_is_left_out watch cell ran = absurd (let n = ran.count in omega (arith, n))
