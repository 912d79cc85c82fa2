-- One line more.
use Rattle.std.proofs.Common.{ap}
use Rattle.rcv_page.proofs.Adding.{adds_same, one_more}
use Rattle.rcv_journal.specs.JournalText.{role_line}
use Rattle.rcv_journal.proofs.roles.write_roles.Goals as goal

pub loop-line-preserved : goal.loop-line-preserved
loop-line-preserved g c =
    let said = role_line c.args.setup.now in
    let here = adds_same _ _ _ _ (ap said c.line-item.is) c.write_role.ensures in
    one_more said _ _ _ c.args.lines.now c.loop-line.line-index c.line-item.result c.loop-line-test.true c.loop-line.invariant here
