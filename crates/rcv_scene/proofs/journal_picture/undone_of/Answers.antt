-- One entry more has its mark; at the end all have theirs.
use Rattle.std.proofs.Common.{◌≤◌, length, ap, arith}
use Rattle.rcv_fates.proofs.Recording.{none_marked, marked_more, all_marked}
use Rattle.rcv_scene.proofs.journal_picture.undone_of.Goals as goal

pub loop-place-init : goal.loop-place-init
loop-place-init c = λ kept has. none_marked kept c.args.record.now.entries c.new-undone.result.items c.new-undone.ensures.items

pub loop-place-preserved : goal.loop-place-preserved
loop-place-preserved c = λ kept has.
    marked_more kept c.args.record.now.entries c.loop-place.place c.loop-place.undone.items c.push.new.self.items c.is_undone.result
    (c.loop-place.invariant kept has) (c.is_undone.ensures kept has) c.in_ok-push.ensures.items

pub returns : goal.returns
returns c = λ kept has.
    let past : length c.args.record.now.entries ≤ c.loop-place.place = omega (arith, ap length c.entries-place-end.ensures.value, c.loop-place-test.false) in
    all_marked kept c.args.record.now.entries c.args.record.now.setup c.loop-place.place c.loop-place.undone.items past (c.loop-place.invariant kept has)
