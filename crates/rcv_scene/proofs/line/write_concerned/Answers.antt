-- One role more.
use Rattle.rcv_journal.specs.JournalText.{kept_text}
use Rattle.rcv_scene.proofs.Lines.{role_added}
use Rattle.rcv_scene.proofs.line.write_concerned.Goals as goal

pub loop-role-preserved : goal.loop-role-preserved
loop-role-preserved c =
    role_added (kept_text c.args.setup.now c.args.concerned.0 c.args.kept.now) c.loop-role.role c.args.text.now c.loop-role.text
    c.write_kept.new.text c.loop-role.invariant c.in_ok-write_kept.ensures
