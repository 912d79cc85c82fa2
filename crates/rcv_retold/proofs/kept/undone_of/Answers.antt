-- Entry by entry.
use Rattle.std.proofs.Common.{◌≡◌, Some, length, refl}
use Rattle.std.specs.Prelude.{slice_get}
use Rattle.std.proofs.lemmas.Option.{slice_get_read}
use Rattle.rcv_fates.proofs.Recording.{all_marked}
use Rattle.rcv_tree.specs.Lists.{lists_in}
use Rattle.rcv_retold.proofs.Marking.{event_at, one_marked}
use Rattle.rcv_retold.proofs.kept.undone_of.Goals as goal

pub is_undone-requires-clause-declared : goal.is_undone-requires-clause-declared
is_undone-requires-clause-declared c = λ e of.
    let there : slice_get c.args.entries.now c.loop-entry.entry-index ≡ Some c.entry-item.result = slice_get_read c.args.entries.now (length c.args.entries.now) c.loop-entry.entry-index c.entry-item.result refl c.loop-entry-test.true c.entry-item.is in
    c.requires.declared c.loop-entry.entry-index e (event_at c.args.entries.now c.loop-entry.entry-index c.entry-item.result e there of)

pub loop-entry-preserved : goal.loop-entry-preserved
loop-entry-preserved c = λ kept right.
    let there : slice_get c.args.entries.now c.loop-entry.entry-index ≡ Some c.entry-item.result = slice_get_read c.args.entries.now (length c.args.entries.now) c.loop-entry.entry-index c.entry-item.result refl c.loop-entry-test.true c.entry-item.is in
    one_marked (lists_in c.args.stamps.now.items) kept c.args.entries.now c.loop-entry.entry-index c.entry-item.result c.loop-entry.undone.items c.push.new.self.items c.is_undone.result
    there right (c.loop-entry.invariant kept right) c.is_undone.ensures c.in_ok-push.ensures.items

pub returns : goal.returns
returns c = λ kept session right. all_marked kept c.args.entries.now session c.loop-entry.entry-index c.loop-entry.undone.items c.loop-entry-test.false (c.loop-entry.invariant kept right)
