-- The head, and the rest.
use Rattle.std.proofs.Common.{[], refl}
use Rattle.rcv_page.proofs.Adding.{then, adds_same}
use Rattle.rcv_journal.proofs.Heads.{begun}
use Rattle.rcv_journal.proofs.entries.write_event.Goals as goal

pub returns : goal.returns
returns g c =
    let event = c.args.event.now in
    adds_same _ _ _ _ (begun c.args.setup.now [] c.args.kind.now event event.role refl) (then c.write_head.ensures c.write_rest.ensures)
