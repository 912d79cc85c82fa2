-- The journal is legal and at its end.
use Rattle.std.proofs.Common.{Bool, sym, subst}
use Rattle.rcv_top.specs.Finishing.{EndsSo}
use Rattle.rcv_top.specs.Writing.{Writes}
use Rattle.rcv_top.proofs.run.write_journal.Goals as goal

pub returns-then-json-clause-writes : goal.returns-then-json-clause-writes
returns-then-json-clause-writes g c =
    let book = c.args.book.now in
    subst (λ (j : Bool). Writes (EndsSo j book.setup book.entries) (g.K.Sink.written c.args.sink.now) (g.K.Sink.written c.write_json.new.sink) (g.K.Sink.faults c.args.sink.now) (g.K.Sink.faults c.write_json.new.sink) c.write_json.result)
    (sym c.if-json.true) c.write_json.ensures.writes

pub returns-else-json-clause-writes : goal.returns-else-json-clause-writes
returns-else-json-clause-writes g c =
    let book = c.args.book.now in
    subst (λ (j : Bool). Writes (EndsSo j book.setup book.entries) (g.K.Sink.written c.args.sink.now) (g.K.Sink.written c.write_lines.new.sink) (g.K.Sink.faults c.args.sink.now) (g.K.Sink.faults c.write_lines.new.sink) c.write_lines.result)
    (sym c.if-json.false) c.write_lines.ensures.writes
