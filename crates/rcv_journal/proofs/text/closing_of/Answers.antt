-- The sink has grown by the lines, and nothing else went through the page.
use Rattle.std.proofs.Common.{[], ◌++◌, append-nil, ◌∙◌}
use Rattle.rcv_page.proofs.Adding.{then, adds_same}
use Rattle.rcv_journal.specs.JournalText.{closing_text}
use Rattle.rcv_journal.proofs.Writing.{grown}
use Rattle.rcv_journal.proofs.text.closing_of.Goals as goal

pub returns-in-Ok : goal.returns-in-Ok
returns-in-Ok c =
    let text = closing_text c.args.setup.now c.args.lines.now in
    let adds = adds_same _ _ (text ++ []) text (append-nil text) (then (then c.write_roles.ensures c.write_last.ensures) c.in-Ok.ensures.done) in
    c.into_bytes.ensures ∙ grown c.in_ok-sink.sink c.finish.new.sink c.in_ok-page.page text c.in_ok-sink.ensures c.in_ok-page.ensures adds
