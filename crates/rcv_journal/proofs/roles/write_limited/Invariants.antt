use Rattle.std.proofs.Common.{flat_map, take}
use Rattle.rcv_page.specs.Page.{Adds, at}
use Rattle.rcv_journal.specs.JournalText.{limit_text}
use Rattle.rcv_journal.proofs.roles.write_limited.Given as goal

abbrev pub invariant-loop-line : goal.invariant-loop-line
invariant-loop-line g l =
    Adds (at g.K.Sink.written g.K.Sink.faults l.fn.sink l.fn.page) (at g.K.Sink.written g.K.Sink.faults l.sink l.page)
    (flat_map (limit_text l.setup) (take l.line-index l.lines))
