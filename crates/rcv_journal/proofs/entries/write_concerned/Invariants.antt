use Rattle.std.proofs.Common.{flat_map}
use Rattle.std.specs.List.{range_with_len}
use Rattle.rcv_page.specs.Page.{Adds, at}
use Rattle.rcv_journal.specs.JournalText.{kept_text}
use Rattle.rcv_journal.proofs.entries.write_concerned.Given as goal

abbrev pub invariant-loop-role : goal.invariant-loop-role
invariant-loop-role g l =
    Adds (at g.K.Sink.written g.K.Sink.faults l.fn.sink l.fn.page) (at g.K.Sink.written g.K.Sink.faults l.sink l.page)
    (flat_map (kept_text l.setup l.concerned.0 l.kept) (range_with_len 0 l.role))
