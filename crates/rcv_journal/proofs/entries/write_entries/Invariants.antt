use Rattle.std.proofs.Common.{flat_map, take}
use Rattle.rcv_page.specs.Page.{Adds, at}
use Rattle.rcv_journal.specs.JournalText.{entry_line}
use Rattle.rcv_journal.proofs.entries.write_entries.Given as goal

abbrev pub invariant-loop-entry : goal.invariant-loop-entry
invariant-loop-entry g l =
    Adds (at g.K.Sink.written g.K.Sink.faults l.fn.sink l.fn.page) (at g.K.Sink.written g.K.Sink.faults l.sink l.page)
    (flat_map (entry_line l.setup) (take l.entry-index l.entries))
