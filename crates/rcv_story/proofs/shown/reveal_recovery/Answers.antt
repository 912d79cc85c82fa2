-- The Recover, its Crash, and one first lost event more.
use Rattle.std.proofs.Common.{◌+◌, ◌⊎◌, sym, subst, arith}
use Rattle.rcv_story.specs.Marks.{AddsMarks}
use Rattle.rcv_story.specs.Shown.{near, far, IsAround}
use Rattle.rcv_story.proofs.Showing.{IsNearBy, IsNearCrash, near_start, crash_near, no_crash_near, near_more, near_other, near_end}
use Rattle.rcv_story.proofs.shown.reveal_recovery.Goals as goal
use Rattle.rcv_story.proofs.shown.reveal_recovery.Goals.{in-Some, in_default, in-Some-first, in_default-first}

pub loop-first-init : goal.loop-first-init
loop-first-init c =
    let x = c.args.recovery.now in
    near_start x c.args.shown.now c.match-recovery.shown (elim c.match-recovery.branch [
      | in-Some w ↦ subst (AddsMarks (λ p. IsAround x.place near far p ⊎ IsNearCrash x p) c.args.shown.now) (sym w.shown-is) (crash_near x w.in-Some.crash c.args.shown.now c.reveal_around.new.shown w.reveal_around-in-Some.new.shown w.in-Some.is c.reveal_around.ensures w.reveal_around-in-Some.ensures)
      | in_default w ↦ subst (AddsMarks (λ p. IsAround x.place near far p ⊎ IsNearCrash x p) c.args.shown.now) (sym w.shown-is) (no_crash_near x c.args.shown.now c.reveal_around.new.shown w.in_default.is c.reveal_around.ensures)
    ])

pub loop-first-preserved : goal.loop-first-preserved
loop-first-preserved c =
    let x = c.args.recovery.now in
    let n = c.loop-first.first-index in
    elim c.match-first.branch [
      | in-Some-first w ↦ subst (AddsMarks (IsNearBy x (n + 1)) c.args.shown.now) (sym w.shown-is) (near_more x n w.in-Some-first.first c.args.shown.now c.loop-first.shown w.reveal_around-in-Some-first.new.shown w.in-Some-first.is c.loop-first.invariant w.reveal_around-in-Some-first.ensures)
      | in_default-first w ↦ subst (AddsMarks (IsNearBy x (n + 1)) c.args.shown.now) (sym w.shown-is) (near_other x n c.args.shown.now c.loop-first.shown w.in_default-first.is c.loop-first.invariant)
    ]

pub returns : goal.returns
returns c =
    let over = c.loop-first-test.false in
    let bound = c.loop-first.auto.first-index-end in
    near_end c.args.recovery.now c.loop-first.first-index c.args.shown.now c.loop-first.shown (omega (arith, over, bound)) c.loop-first.invariant
