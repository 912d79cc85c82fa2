-- Each part goes on behind the one before.
use Rattle.rcv_page.proofs.Adding.{then, adds_same}
use Rattle.rcv_journal.proofs.entries.write_crash.Goals as goal

pub returns : goal.returns
returns g c = then (then c.word.ensures (adds_same _ _ _ _ c.name_of.ensures c.word-2.ensures)) c.byte.ensures
