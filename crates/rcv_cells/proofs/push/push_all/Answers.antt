-- The next entry may come and is what a cell has made, and so it is with those behind it.
use Rattle.std.proofs.Common.{rules, ◌+◌, sym, subst}
use Rattle.rcv_cells.proofs.Ahead.{HavePushed, next_pushed, one_pushed}
use Rattle.rcv_cells.proofs.push.push_all.Goals as goal
use Rattle.rcv_cells.proofs.push.push_all.Goals.{then-dear, else-dear}

pub push_by_cell-requires-clause-next : goal.push_by_cell-requires-clause-next
push_by_cell-requires-clause-next c =
    next_pushed c.args.book.now c.loop-entry.book c.args.entries.now c.args.lanes.now c.loop-entry.entry-index
    c.entry-item.result (search rules) (search rules) c.loop-entry.invariant

pub loop-entry-preserved : goal.loop-entry-preserved
loop-entry-preserved c = elim c.if-dear.branch [
  | then-dear w ↦ subst (λ b. HavePushed c.args.book.now c.args.entries.now c.args.lanes.now b (c.loop-entry.entry-index + 1)) (sym w.book-is)
      (one_pushed c.args.book.now c.loop-entry.book w.push_by_cell.new.book c.args.entries.now c.args.lanes.now
      c.loop-entry.entry-index c.entry-item.result (search rules) (search rules) c.loop-entry.invariant
      w.push_by_cell.ensures)
  | else-dear w ↦ subst (λ b. HavePushed c.args.book.now c.args.entries.now c.args.lanes.now b (c.loop-entry.entry-index + 1)) (sym w.book-is)
      (one_pushed c.args.book.now c.loop-entry.book w.push_entry.new.book c.args.entries.now c.args.lanes.now
      c.loop-entry.entry-index c.entry-item.result (search rules) (search rules) c.loop-entry.invariant
      w.push_entry.ensures)
]
