-- One variable after another is noted where it differs.
use Rattle.std.proofs.Common.{◌≡◌, ◌+◌, ◌*◌, ◌++◌, ◌∷◌, [], pos, length, set, refl, sym, ◌∙◌, ap, arith, get_or, rules, w64, vec_capacity}
use mir.Val.{SFits, of_z, to_z}
use Rattle.std.proofs.lemmas.Int.{to_z-of_z}
use Rattle.rcv_checkpoint.proofs.Patches.{noted_none, noted_same, noted_more, noted_four, noted_as, noted_all, same_all, as_many_before}
use Rattle.rcv_checkpoint.proofs.rows.note_all.Goals as goal
use Rattle.rcv_checkpoint.proofs.rows.note_all.Goals.{then-vars-place, else-vars-place, then-not-are_same+else-loop-place-test, else-not-are_same}

pub loop-quarter-init : goal.loop-quarter-init
loop-quarter-init c = (noted_none _ _ _ _, omega arith, omega arith)

pub loop-place-init : goal.loop-place-init
loop-place-init c =
    let lt = sym (ap length c.to.view_is) ∙ c.to.told in
    let lv = sym (ap length c.vars.view_is) ∙ c.vars.told in
    let n = c.loop-quarter-test.true in
    let before = c.loop-quarter.invariant.0 in (
      noted_as _ _ _ _ _ _ _ _ _ _ _ _ _ _ refl refl refl c.vars.view_is refl before,
      as_many_before _ _ _ _ _ _ _ _ _ lv lt (omega (arith, n)) before,
      c.loop-quarter.invariant.1,
      c.loop-quarter.invariant.2,
    )

pub loop-place-preserved : goal.loop-place-preserved
loop-place-preserved c =
    let at = c.loop-place.place in
    let from = c.args.vars.now in
    let vars = c.loop-place.vars-inside.0 in
    let to = c.args.to.now in
    let lf = c.loop-place.invariant.1 in
    let lt : length to ≡ 16 = sym (ap length c.to.view_is) ∙ c.to.told in
    let there = c.to-in-loop-quarter.inside.0 in
    let fits : SFits w64 (get_or there at (pos 0)) = search rules in
    let value : to_z w64 (of_z w64 (get_or there at (pos 0))) ≡ get_or to at (pos 0) = to_z-of_z w64 (get_or there at (pos 0)) fits ∙ ap (λ l. get_or l at (pos 0)) c.to-in-loop-quarter.view_is in
    let a = c.loop-place.invariant.2 in
    let b = c.loop-place.invariant.3 in
    let here = c.loop-place-test.true in
    let n = c.loop-quarter-test.true in
    elim c.if-vars-place.branch [
      | then-vars-place w ↦
          let places = ap (λ v. v.items) w.places-is ∙ w.put.ensures.items in
          let values = ap (λ v. v.items) w.values-is ∙ w.put-then-vars-place.ensures.items ∙ ap (λ v. c.loop-place.values.items ++ v ∷ []) value in
          let now = ap (λ v. v.0) w.vars-inside-is ∙ ap (set vars at) value in
          let d = ap vec_capacity w.places-is in
          let e = ap vec_capacity w.values-is in
          let f = w.put.ensures.room in
          let g = w.put-then-vars-place.ensures.room in
          (noted_as (at + 1) (at + 1) _ _ _ _ _ _ from _ _ to _ _ refl places values now w.changed-is (noted_more at _ _ _ _ from vars to _ (pos 0) lf lt (omega (arith, here, n)) c.loop-place.invariant.0), lf, omega (arith, a, d, f), omega (arith, b, e, g))
      | else-vars-place w ↦
          let fits_now : SFits w64 (get_or vars at (pos 0)) = search rules in
          let same : get_or vars at (pos 0) ≡ get_or to at (pos 0) = sym (to_z-of_z w64 (get_or vars at (pos 0)) fits_now) ∙ ap (to_z w64) w.if-vars-place.false ∙ value in
          let d = ap vec_capacity w.places-is in
          let e = ap vec_capacity w.values-is in
          (noted_as (at + 1) (at + 1) _ _ _ _ _ _ from _ _ to _ _ refl (ap (λ v. v.items) w.places-is) (ap (λ v. v.items) w.values-is) (ap (λ v. v.0) w.vars-inside-is) w.changed-is (noted_same at _ _ _ _ from vars to _ (pos 0) lf lt (omega (arith, here, n)) same c.loop-place.invariant.0), lf, omega (arith, a, d), omega (arith, b, e))
    ]

pub loop-quarter-preserved : goal.loop-quarter-preserved
loop-quarter-preserved c =
    let lt = sym (ap length c.to.view_is) ∙ c.to.told in
    let lv = sym (ap length c.vars.view_is) ∙ c.vars.told in
    let n = c.loop-quarter-test.true in
    let before = c.loop-quarter.invariant.0 in
    let lf = as_many_before _ _ _ _ _ _ _ _ _ lv lt (omega (arith, n)) before in
    elim c.if-not-are_same.branch [
      | then-not-are_same+else-loop-place-test w ↦
          let a = w.loop-place.invariant.2 in
          let b = w.loop-place.invariant.3 in
          let d = ap vec_capacity w.places-is in
          let e = ap vec_capacity w.values-is in
          let end = w.loop-place-test.false in
          let most = w.loop-place.auto.place-end in
          (noted_as ((c.loop-quarter.quarter + 1) * 4) w.loop-place.place _ _ _ _ _ _ _ _ _ _ _ _ (omega (arith, end, most)) (ap (λ v. v.items) w.places-is) (ap (λ v. v.items) w.values-is) w.vars-is w.changed-is w.loop-place.invariant.0, omega (arith, a, d), omega (arith, b, e))
      | else-not-are_same w ↦
          let a = c.loop-quarter.invariant.1 in
          let b = c.loop-quarter.invariant.2 in
          let d = ap vec_capacity w.places-is in
          let e = ap vec_capacity w.values-is in
          (noted_as ((c.loop-quarter.quarter + 1) * 4) (c.loop-quarter.quarter * 4 + 4) _ _ _ _ _ _ _ _ _ _ _ _ (omega arith) (ap (λ v. v.items) w.places-is) (ap (λ v. v.items) w.values-is) w.vars-is w.changed-is (noted_four (c.loop-quarter.quarter * 4) _ _ _ _ _ _ _ _ lf lt (omega (arith, n)) (w.if-not-are_same.ensures (search rules)) before), omega (arith, a, d), omega (arith, b, e))
    ]

pub returns-clause-noted : goal.returns-clause-noted
returns-clause-noted c =
    let done = c.loop-quarter-test.false in
    let most = c.loop-quarter.auto.quarter-end in
    noted_all _ _ _ _ _ _ _ _ _ (sym (ap length c.to.view_is) ∙ c.to.told) (omega (arith, done, most)) c.loop-quarter.invariant.0

pub returns-clause-vars : goal.returns-clause-vars
returns-clause-vars c =
    let done = c.loop-quarter-test.false in
    let most = c.loop-quarter.auto.quarter-end in
    same_all _ _ _ _ _ _ _ _ _ (sym (ap length c.to.view_is) ∙ c.to.told) (omega (arith, done, most)) c.loop-quarter.invariant.0
