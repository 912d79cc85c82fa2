use Rattle.std.specs.Prelude.{List}
use Rattle.rcv_tree.specs.declared.event.Event.{Event}
use Rattle.rcv_fates.specs.Record.{HasKept}
use Rattle.rcv_rows.proofs.Adding.{IsGoing}
use Rattle.rcv_rows.proofs.row.rows.Given as goal

abbrev pub invariant-loop-place : goal.invariant-loop-place
invariant-loop-place l = (kept : List Event) → HasKept l.record kept → IsGoing kept l.record.entries l.shown l.rows.items l.behind l.place
