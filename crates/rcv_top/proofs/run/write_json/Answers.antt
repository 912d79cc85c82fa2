-- How the book ended, and its JSON.
use Rattle.std.proofs.Common.{List, ℕ, subst}
use Rattle.rcv_top.specs.Writing.{Wrote}
use Rattle.rcv_top.proofs.run.write_json.Goals as goal

pub returns-clause-writes : goal.returns-clause-writes
returns-clause-writes g c = record {
  status = c.status_of.result;
  bytes = c.in_ok-bytes.bytes.items;
  is_kind = record { legal = c.requires.legal; final = c.requires.end; ends = c.status_of.ensures; written = c.in_ok-bytes.ensures };
  wrote = subst (λ (b : List ℕ). Wrote (g.K.Sink.written c.args.sink.now) (g.K.Sink.written c.write.new.sink) (g.K.Sink.faults c.args.sink.now) (g.K.Sink.faults c.write.new.sink) b c.status_of.result c.write.result) c.as_slice.ensures.value c.write.ensures.wrote;
}
