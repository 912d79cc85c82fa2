-- The place before is marked with none after the place, or isn't marked.
use Rattle.std.proofs.Common.{◌≡◌, ◌+◌, ℕ, false, sym, ◌∙◌, subst, ⊎_elim, arith}
use Rattle.std.proofs.lemmas.Bool.{cases_lt, false≢true, iff_false}
use Rattle.std.proofs.lemmas.Option.{slice_get-get_or}
use Rattle.rcv_model.proofs.Lists.{some_same}
use Rattle.rcv_story.specs.Marks.{IsMarked, HasMarked}
use Rattle.rcv_story.proofs.shown.is_bridged.Goals as goal
use Rattle.rcv_story.proofs.shown.is_bridged.Goals.{else-marks-lower-via-then-marks-lower+else-has_marked, else-marks-lower-via-else-marks-lower}

pub loop-lower-preserved : goal.loop-lower-preserved
loop-lower-preserved c = λ n f m h. ⊎_elim
    (λ low. c.loop-lower.invariant n (record { low = f.low; high = low }) m h)
    (λ le.
    let same : n ≡ c.loop-lower.lower = (let a = f.high in omega (arith, a, le)) in
    let here : IsMarked c.args.marks.now c.loop-lower.lower = subst (IsMarked c.args.marks.now) same m in
    let there = subst (λ (k : ℕ). HasMarked c.args.marks.now (c.args.place + 1) (k + 5 + 1)) same h in
    let low = c.loop-lower-test.true in
    let within = c.requires in
    let at = slice_get-get_or c.args.marks.now c.loop-lower.lower false (omega (arith, low, within)) in
    elim c.else-marks-lower.branch [
      | else-marks-lower-via-then-marks-lower+else-has_marked w ↦ iff_false w.has_marked.ensures w.if-has_marked.false there
      | else-marks-lower-via-else-marks-lower w ↦ false≢true (sym w.if-marks-lower.false ∙ some_same (sym at ∙ here))
    ])
    (cases_lt n c.loop-lower.lower)
