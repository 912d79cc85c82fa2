-- The texts so far were written, each behind its heading.
use Rattle.std.proofs.Common.{map, take}
use Rattle.rcv_page.specs.Page.{Adds, at}
use Rattle.rcv_joined.specs.Joined.{joined}
use Rattle.rcv_joined.proofs.joined.write_all.Given as goal

abbrev pub invariant-loop-number : goal.invariant-loop-number
invariant-loop-number g l =
    Adds (at g.K.Sink.written g.K.Sink.faults l.fn.sink l.fn.page) (at g.K.Sink.written g.K.Sink.faults l.sink l.page)
    (joined l.json 0 (map (λ t. t.now) (take l.number l.fn.texts)))
