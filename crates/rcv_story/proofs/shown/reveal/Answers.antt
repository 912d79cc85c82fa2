-- One place more is shown; the range ends at its end, or at the end of the marks.
use Rattle.std.proofs.Common.{refl, inl, inr, ⊎_elim, arith}
use Rattle.std.proofs.lemmas.Bool.{cases_lt}
use Rattle.rcv_story.proofs.Showing.{range_start, range_next, range_end}
use Rattle.rcv_story.proofs.shown.reveal.Goals as goal

pub loop-place-init : goal.loop-place-init
loop-place-init c = (range_start c.args.from c.args.from c.args.shown.now (omega arith), inr refl)

pub loop-place-preserved : goal.loop-place-preserved
loop-place-preserved c =
    let least = c.min-place-end.ensures in
    let lt = c.loop-place-test.true in
    let size = c.loop-place.auto.shown in
    (range_next c.args.from c.loop-place.place c.args.shown.now c.loop-place.shown c.loop-place.auto.place (omega (arith, lt, least, size)) c.loop-place.invariant.0, inl (omega (arith, lt)))

pub returns : goal.returns
returns c =
    let least = c.min-place-end.ensures in
    let over = c.loop-place-test.false in
    range_end c.args.from c.loop-place.place c.args.end c.args.shown.now c.loop-place.shown
    (⊎_elim (λ le. inl (omega (arith, le, least))) (λ same. inr (omega (arith, same))) c.loop-place.invariant.1)
    (⊎_elim (λ lt. inr (omega (arith, lt, over, least))) (λ le. inl le) (cases_lt c.loop-place.place c.args.end))
    c.loop-place.invariant.0
