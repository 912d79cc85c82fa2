-- All marks are written.
use Rattle.std.proofs.Common.{ℕ, false, length, sym, ◌∙◌, ap, subst, arith}
use Rattle.std.proofs.lemmas.List.{length-replicate}
use Rattle.rcv_story.specs.Marks.{AddsMarks}
use Rattle.rcv_story.specs.Shown.{IsPicked, ArePicked}
use Rattle.rcv_story.proofs.Showing.{all_picked, written}
use Rattle.rcv_story.proofs.shown.picked.Goals as goal

pub returns : goal.returns
returns c =
    let bare = c.as_mut_slice.ensures.value ∙ c.in_ok-picked.ensures in
    let all = ap length bare ∙ length-replicate c.args.count false in
    let size = c.pick.ensures.size in
    let value = ap length c.as_mut_slice.ensures.value in
    let len = c.in_ok-picked.picked.ok.0 in
    subst (ArePicked c.args.count c.args.recoveries.now) (sym (written c.pick.new.shown _ c.in_ok-picked.picked.len (omega (arith, size, value, len))))
    (all_picked c.args.count c.args.recoveries.now c.as_mut_slice.result.now c.pick.new.shown bare (subst (λ (n : ℕ). AddsMarks (IsPicked n c.args.recoveries.now) c.as_mut_slice.result.now c.pick.new.shown) all c.pick.ensures))
