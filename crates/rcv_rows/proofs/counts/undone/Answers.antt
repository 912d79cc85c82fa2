-- One entry more is undone, or isn't.
use Rattle.std.proofs.Common.{◌+◌, ◌<◌, length, sym, subst, arith}
use Rattle.std.specs.Prelude.{slice_range}
use Rattle.rcv_fates.specs.Fates.{IsUndoneAt}
use Rattle.rcv_rows.specs.Told.{AreUndone}
use Rattle.rcv_rows.proofs.Counting.{none_yet, next_undone, next_other, few_in_range}
use Rattle.rcv_rows.proofs.Kept.{is_not}
use Rattle.rcv_rows.proofs.counts.undone.Goals as goal
use Rattle.rcv_rows.proofs.counts.undone.Goals.{then-is_undone, else-is_undone}

pub loop-place-init : goal.loop-place-init
loop-place-init c = λ kept has. none_yet kept c.args.record.now.entries c.args.first

pub overflow_add-count : goal.overflow_add-count
overflow_add-count c =
    let within = c.requires.within in
    let lt = c.loop-place-test.true in
    let up = c.loop-place.auto.place in
    let size = c.entries-entries.ensures.few in
    let kept = c.entries-entries.ensures.is.kept in
    let few = few_in_range kept c.args.record.now.entries c.args.first c.loop-place.place c.loop-place.count up (omega (arith, within, lt)) (c.loop-place.invariant kept c.entries-entries.ensures.is.has) in
    omega (arith, few, within, lt, size)

pub loop-place-preserved : goal.loop-place-preserved
loop-place-preserved c = λ kept has.
    let entries = c.args.record.now.entries in
    let place = c.loop-place.place in
    let within = c.requires.within in
    let lt = c.loop-place-test.true in
    let up = c.loop-place.auto.place in
    let inside : place < length entries = omega (arith, within, lt) in
    elim c.if-is_undone.branch [
      | then-is_undone w ↦ subst (AreUndone kept (slice_range entries c.args.first (place + 1))) (sym w.count-is) (next_undone kept entries c.args.first place c.loop-place.count up inside (c.loop-place.invariant kept has) ((c.is_undone.ensures kept has).0 w.if-is_undone.true))
      | else-is_undone w ↦ subst (AreUndone kept (slice_range entries c.args.first (place + 1))) (sym w.count-is) (next_other kept entries c.args.first place c.loop-place.count up inside (c.loop-place.invariant kept has) (is_not (IsUndoneAt kept entries place) c.is_undone.result (c.is_undone.ensures kept has) w.if-is_undone.false))
    ]
