-- Each value says an entry, or the list is none of a journal's.
use Rattle.std.proofs.Common.{◌+◌, map, sym, subst, arith}
use Rattle.serde_json.specs.View.{view}
use Rattle.rcv_journal.specs.Recorded.{bare}
use Rattle.rcv_json_reader.specs.Parts.{SaysEntries}
use Rattle.rcv_json_reader.proofs.Firsts.{AreFirstEntries, each_is_entry, more_entries}
use Rattle.rcv_json_reader.proofs.Items.{given, lacking, refused, viewed_at}
use Rattle.rcv_json_reader.proofs.lists.read_entries.Goals as goal

pub returns-in_err-ok_or-clause-shape : goal.returns-in_err-ok_or-clause-shape
returns-in_err-ok_or-clause-shape c = refused c.from_residual-in_err-ok_or.result _ (λ e shape entries says.
    let setup = bare c.args.accepted.now.protocol in
    let here = viewed_at c.in_ok-parts.parts.now c.loop-part.part-index c.part-item.result (omega (arith, c.loop-part-test.true)) c.part-item.is in
    each_is_entry setup (map view c.in_ok-parts.parts.now) c.loop-part.part-index (view c.part-item.result) here (lacking c.read_entry.result c.in_err-ok_or.ensures.ok_part c.read_entry.ensures.none) entries
    (subst (λ d. SaysEntries setup d entries) (given _ c.items.result c.in_ok-parts.parts c.in_ok-parts.ensures.ok_part c.items.ensures.some) says))

pub loop-part-preserved : goal.loop-part-preserved
loop-part-preserved c =
    let setup = bare c.args.accepted.now.protocol in
    let parts = map view c.in_ok-parts.parts.now in
    let here = viewed_at c.in_ok-parts.parts.now c.loop-part.part-index c.part-item.result (omega (arith, c.loop-part-test.true)) c.part-item.is in
    subst (λ items. AreFirstEntries setup parts (c.loop-part.part-index + 1) items) (sym c.in_ok-push.ensures.items)
    (more_entries setup parts c.loop-part.part-index c.loop-part.found.items (view c.part-item.result) c.in_ok-ok_or.field-0 here (given _ c.read_entry.result c.in_ok-ok_or.field-0 c.in_ok-ok_or.ensures.ok_part c.read_entry.ensures.some) c.loop-part.invariant)
