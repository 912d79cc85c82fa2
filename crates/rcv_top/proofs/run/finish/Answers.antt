-- What was written is the journal of the book at its end.
use Rattle.std.proofs.Common.{subst}
use Rattle.rcv_core.specs.Book.{BookView}
use Rattle.rcv_top.specs.Finishing.{EndsSo, FinishesAs}
use Rattle.rcv_top.proofs.Writing.{widen}
use Rattle.rcv_top.proofs.run.finish.Goals as goal

pub returns-in-Ok-clause-finishes : goal.returns-in-Ok-clause-finishes
returns-in-Ok-clause-finishes g c =
    let last : BookView = c.finish.new.self.book in
    widen (g.K.Sink.written c.args.sink.now) (g.K.Sink.written c.write_journal.new.sink) (g.K.Sink.faults c.args.sink.now) (g.K.Sink.faults c.write_journal.new.sink)
    (EndsSo c.args.json c.book.result.now.setup c.book.result.now.entries) (FinishesAs c.args.workers c.args.json c.args.session.now.book) c.write_journal.result
    (λ status bytes held. record { last = last; finished = c.in-Ok.ensures.2; ends_so = subst (λ (b : BookView). EndsSo c.args.json b.setup b.entries status bytes) c.book.ensures held })
    c.write_journal.ensures.writes
