-- The text says no other journal.
use Rattle.std.proofs.Common.{length, ap, ◌∙◌, arith}
use Rattle.rcv_journal.specs.Recorded.{JournalView}
use Rattle.rcv_json_reader.proofs.OneJournal.{texts_have_one_journal}
use Rattle.rcv_diagnosis.proofs.Parting.{shapeless_found}
use Rattle.rcv_diagnosis.proofs.session.of_decoded.Goals as goal

pub returns-then-as_slice : goal.returns-then-as_slice
returns-then-as_slice c =
    let same = ap length (c.as_slice.ensures.value ∙ ap (λ (v : JournalView). v.entries) c.journal.view_is) in
    let long = c.if-as_slice.true in
    shapeless_found c.malformed.result c.args.setup.now c.args.text.now c.args.feeds
    (λ j is.
    let one = ap (λ (v : JournalView). length v.entries) (texts_have_one_journal c.args.setup.now.protocol c.args.text.now j c.args.journal.now c.protocol-protocol.ensures.accepted is.0 c.requires.read) in
    let few = is.1 in
    omega (arith, same, long, one, few))
    c.malformed.ensures
