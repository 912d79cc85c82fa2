-- One role more.
use Rattle.rcv_page.proofs.Adding.{then, adds_same}
use Rattle.rcv_journal.specs.JournalText.{kept_text}
use Rattle.rcv_journal.proofs.Lists.{said_of_one_more}
use Rattle.rcv_journal.proofs.entries.write_concerned.Goals as goal

pub loop-role-preserved : goal.loop-role-preserved
loop-role-preserved g c =
    let said = said_of_one_more (kept_text c.args.setup.now c.args.concerned.0 c.args.kept.now) c.loop-role.role in
    adds_same _ _ _ _ said (then c.loop-role.invariant c.write_kept.ensures)
