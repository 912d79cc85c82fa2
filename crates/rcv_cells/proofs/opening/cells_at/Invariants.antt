use Rattle.std.proofs.Common.{◌≡◌, drop}
use Rattle.rcv_cells.specs.Making.{AreFirst}
use Rattle.rcv_cells.proofs.opening.cells_at.Given as goal

abbrev pub invariant-loop-role : goal.invariant-loop-role
invariant-loop-role l =
    (l.all.items ≡ drop l.role l.initial.all.items) × AreFirst l.fn.setup l.role l.initial.all.items l.cells.items
