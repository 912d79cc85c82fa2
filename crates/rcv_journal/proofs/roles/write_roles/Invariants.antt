use Rattle.std.proofs.Common.{flat_map, take}
use Rattle.rcv_page.specs.Page.{Adds, at}
use Rattle.rcv_journal.specs.JournalText.{role_line}
use Rattle.rcv_journal.proofs.roles.write_roles.Given as goal

abbrev pub invariant-loop-line : goal.invariant-loop-line
invariant-loop-line g l =
    Adds (at g.K.Sink.written g.K.Sink.faults l.fn.sink l.fn.page) (at g.K.Sink.written g.K.Sink.faults l.sink l.page)
    (flat_map (role_line l.setup) (take l.line-index l.lines))
