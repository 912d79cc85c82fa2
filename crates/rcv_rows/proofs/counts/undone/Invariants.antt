use Rattle.std.specs.Prelude.{slice_range}
use Rattle.std.specs.Prelude.{List}
use Rattle.rcv_tree.specs.declared.event.Event.{Event}
use Rattle.rcv_fates.specs.Record.{HasKept}
use Rattle.rcv_rows.specs.Told.{AreUndone}
use Rattle.rcv_rows.proofs.counts.undone.Given as goal

abbrev pub invariant-loop-place : goal.invariant-loop-place
invariant-loop-place l = (kept : List Event) → HasKept l.record kept → AreUndone kept (slice_range l.record.entries l.first l.place) l.count
