-- What is near one recovery more, if it is told.
use Rattle.std.proofs.Common.{◌+◌, length, refl, sym, subst, arith}
use Rattle.std.proofs.lemmas.Bool.{iff_false}
use Rattle.std.proofs.lemmas.Option.{slice_get-get_or}
use Rattle.rcv_story.specs.Marks.{AddsMarks}
use Rattle.rcv_story.proofs.Showing.{IsPickedTill, picked_start, picked_more, picked_other, picked_end}
use Rattle.rcv_story.proofs.shown.pick.Goals as goal
use Rattle.rcv_story.proofs.shown.pick.Goals.{then-is_told, else-is_told}

pub loop-number-init : goal.loop-number-init
loop-number-init c = picked_start (length c.args.shown.now) c.saturating_sub.result c.args.recoveries.now c.args.shown.now c.reveal.new.shown c.reveal-2.new.shown c.saturating_sub.ensures refl c.reveal.ensures c.reveal-2.ensures

pub loop-number-preserved : goal.loop-number-preserved
loop-number-preserved c =
    let xs = c.args.recoveries.now in
    let n = c.loop-number.number in
    let count = length c.args.shown.now in
    elim c.if-is_told.branch [
      | then-is_told w ↦ subst (AddsMarks (IsPickedTill count xs (n + 1)) c.args.shown.now) (sym w.shown-is) (picked_more count n xs _ c.args.shown.now c.loop-number.shown w.reveal_recovery.new.shown (slice_get-get_or xs n _ c.loop-number-test.true) (c.is_told.ensures.0 w.if-is_told.true) c.loop-number.invariant w.reveal_recovery.ensures)
      | else-is_told w ↦ subst (AddsMarks (IsPickedTill count xs (n + 1)) c.args.shown.now) (sym w.shown-is) (picked_other count n xs c.args.shown.now c.loop-number.shown (iff_false c.is_told.ensures w.if-is_told.false) c.loop-number.invariant)
    ]

pub returns : goal.returns
returns c =
    let over = c.loop-number-test.false in
    picked_end (length c.args.shown.now) c.loop-number.number c.args.recoveries.now c.args.shown.now c.loop-number.shown refl (omega (arith, over)) c.loop-number.invariant
