-- The lines of entries, the lines of roles, the last line, and what the page still holds.
use Rattle.std.proofs.Common.{[], ◌++◌, append-nil}
use Rattle.std.proofs.lemmas.Result.{on_ok_weaker, on_err_weaker}
use Rattle.rcv_page.proofs.Adding.{then, adds_same}
use Rattle.rcv_journal.specs.JournalText.{journal_text}
use Rattle.rcv_journal.proofs.journal.write_journal.Goals as goal

pub returns-clause-done : goal.returns-clause-done
returns-clause-done g c =
    let text = journal_text c.args.setup.now c.args.entries.now c.args.lines.now in
    let held = then (then c.write_entries.ensures c.write_roles.ensures) c.write_last.ensures in
    on_ok_weaker c.finish.result (λ rest. adds_same _ _ (text ++ []) text (append-nil text) (then held rest)) c.finish.ensures.done

pub returns-clause-failed : goal.returns-clause-failed
returns-clause-failed g c =
    let text = journal_text c.args.setup.now c.args.entries.now c.args.lines.now in
    let held = then (then c.write_entries.ensures c.write_roles.ensures) c.write_last.ensures in
    on_err_weaker c.finish.result (λ rest. adds_same _ _ (text ++ []) text (append-nil text) (then held rest)) c.finish.ensures.failed
