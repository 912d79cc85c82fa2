-- The sink has grown by the line, and nothing else went through the page.
use Rattle.std.proofs.Common.{[], ◌++◌, append-nil, ◌∙◌}
use Rattle.rcv_page.proofs.Adding.{then, adds_same}
use Rattle.rcv_journal.specs.JournalText.{entry_line}
use Rattle.rcv_journal.proofs.Writing.{grown}
use Rattle.rcv_journal.proofs.text.entry_line_of.Goals as goal

pub returns-in-Ok : goal.returns-in-Ok
returns-in-Ok c =
    let line = entry_line c.args.setup.now c.args.entry.now in
    let adds = adds_same _ _ (line ++ []) line (append-nil line) (then c.write_alone.ensures c.in-Ok.ensures.done) in
    c.into_bytes.ensures ∙ grown c.in_ok-sink.sink c.finish.new.sink c.in_ok-page.page line c.in_ok-sink.ensures c.in_ok-page.ensures adds
