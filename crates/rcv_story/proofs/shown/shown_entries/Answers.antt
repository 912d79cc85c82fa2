-- One place more has its mark.
use Rattle.std.proofs.Common.{◌+◌, ℕ, List, Bool, length, sym, ap, subst, arith}
use Rattle.rcv_story.specs.declared.story.Recovery.{Recovery}
use Rattle.rcv_story.specs.Shown.{ArePicked}
use Rattle.rcv_story.proofs.Showing.{AreShownTo, shown_next}
use Rattle.rcv_story.proofs.shown.shown_entries.Goals as goal

pub loop-place-preserved : goal.loop-place-preserved
loop-place-preserved c =
    let count = length c.args.record.now.entries in
    let all = ap length c.entries-count.ensures.value in
    let long = c.if-count-le-WHOLE.false in
    let xs = c.args.story.now.recoveries.items in
    let marks = c.as_slice-in-loop-place.result.now in
    let are = subst (λ (n : ℕ). ArePicked n xs marks) all
    (subst (λ (l : List Recovery). ArePicked (length c.entries-count.result.now) l marks) c.as_slice.ensures.value
    (subst (λ (m : List Bool). ArePicked (length c.entries-count.result.now) c.as_slice.result.now m) (sym c.as_slice-in-loop-place.ensures.value) c.in_ok-picked.ensures)) in
    subst (AreShownTo count xs (c.loop-place.place + 1)) (sym c.in_ok-push.ensures.items)
    (shown_next count xs marks c.loop-place.place c.loop-place.shown.items c.is_shown.result (omega (arith, long, all)) are c.is_shown.ensures c.loop-place.invariant)
