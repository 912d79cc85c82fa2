use Rattle.std.proofs.Common.{◌≡◌, ◌≤◌, ◌++◌, length, vec_capacity}
use Rattle.std.specs.Vec.Iter.{drain_items}
use Rattle.rcv_rollback.specs.Halves.{AreSplit}
use Rattle.rcv_rollback.proofs.halves.part.Given as goal

abbrev pub invariant-loop-cell : goal.invariant-loop-cell
invariant-loop-cell g l = (l.yielded ++ drain_items l.cell-iterator ≡ l.fn.cells.items)
    × AreSplit l.fn.concerned l.yielded l.back.items l.beside.items
    × (length l.fn.cells.items ≤ vec_capacity l.back)
    × (length l.fn.cells.items ≤ vec_capacity l.beside)
