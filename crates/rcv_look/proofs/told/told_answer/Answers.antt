-- Nothing is cut.
use Rattle.std.proofs.Common.{ℕ, ◌+◌, sym, ap}
use Rattle.rcv_look.proofs.Guided.{uncut_said}
use Rattle.rcv_look.proofs.told.told_answer.Goals as goal

pub returns-in-None : goal.returns-in-None
returns-in-None c = uncut_said c.no_journal.result c.args.input.now (1 + c.line_feeds.result) (sym c.in-None.ensures.is) (ap (λ (n : ℕ). 1 + n) c.line_feeds.ensures) c.no_journal.ensures.status c.no_journal.ensures.bytes
