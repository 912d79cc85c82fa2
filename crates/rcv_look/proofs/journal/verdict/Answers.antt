-- The first entry that can't come.
use Rattle.std.proofs.Common.{ap, ◌∙◌}
use Rattle.rcv_journal.specs.Recorded.{JournalView}
use Rattle.rcv_look.proofs.Journals.{illegal_said}
use Rattle.rcv_look.proofs.journal.verdict.Goals as goal

pub returns-in-Err-Entry : goal.returns-in-Err-Entry
returns-in-Err-Entry c = illegal_said c.illegal_entry.result c.args.setup.now c.args.journal.now c.as_slice.result.now c.args.written c.in-Err-Entry.number
    (c.as_slice.ensures.value ∙ ap (λ (v : JournalView). v.entries) c.journal.view_is) (c.in-Err-Entry.ensures.wrong c.in-Err-Entry.number c.in-Err-Entry.field-0-is)
    c.illegal_entry.ensures.status c.illegal_entry.ensures.bytes
