-- A cell stands there, whose part went back.
use Rattle.std.proofs.Common.{Some, refl, sym, subst}
use Rattle.rcv_rollback.specs.Going.{HasGoneAt}
use Rattle.rcv_rollback.proofs.settling.settle_at.Goals as goal

pub settle_cell-requires-clause-going : goal.settle_cell-requires-clause-going
settle_cell-requires-clause-going c = c.requires.going c.in-Some.cell c.in-Some.is

pub returns-in-Some : goal.returns-in-Some
returns-in-Some c =
    subst (λ x. HasGoneAt c.args.book.now c.args.role x (Some c.settle_cell.new.cell)) (sym c.in-Some.is)
    (c.settle_cell.new.cell, refl, c.settle_cell.ensures)
