-- Each part goes on behind the one before.
use Rattle.rcv_page.proofs.Adding.{then}
use Rattle.rcv_journal.proofs.entries.write_send_alone.Goals as goal

pub returns : goal.returns
returns g c = then c.write_event.ensures c.byte.ensures
