use Rattle.std.proofs.Common.{◌≡◌, vec_capacity}
use Rattle.rcv_rollback.specs.Parting.{AreUnitedTo}
use Rattle.rcv_rollback.proofs.halves.unite.Given as goal

abbrev pub invariant-loop-place : goal.invariant-loop-place
invariant-loop-place l =
    AreUnitedTo l.fn.concerned l.initial.back.items l.initial.beside.items l.place l.cells.items l.back.items l.beside.items
    × (vec_capacity l.cells ≡ vec_capacity l.initial.cells)
