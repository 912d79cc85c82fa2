-- Point by point.
use Rattle.std.proofs.Common.{◌≡◌, ◌+◌, [], refl, sym, ◌∙◌, subst, arith}
use Rattle.rcv_points.specs.Follow.{net_in}
use Rattle.rcv_points.specs.Found.{Adds, IsEndPoint}
use Rattle.rcv_points.proofs.Adding.{UpTo, adds_same, none_up_to, one_more_yes, one_more_no}
use Rattle.rcv_points.proofs.Gathering.{of_none, of_some}
use Rattle.rcv_points.proofs.ending.add_ends.Goals.{then-is_empty, else-is_empty}
use Rattle.rcv_points.proofs.ending.add_ends.Goals as goal

pub loop-before-init : goal.loop-before-init
loop-before-init c = none_up_to (λ k. (net_in c.args.points.now).offers k ≡ []) c.args.places.now

pub loop-before-preserved : goal.loop-before-preserved
loop-before-preserved c =
    let i = c.loop-before.before in
    elim c.if-is_empty.branch [
      | then-is_empty w ↦ subst (λ l. Adds (UpTo (λ k. (net_in c.args.points.now).offers k ≡ []) (i + 1)) c.args.places.now l) (sym w.places-is) (one_more_yes (λ k. (net_in c.args.points.now).offers k ≡ []) i (i + 1) c.args.places.now c.loop-before.places w.add.new.self refl (sym c.offered.ensures ∙ of_none c.offered.result.now w.if-is_empty.ensures) c.loop-before.invariant w.add.ensures.adds)
      | else-is_empty w ↦ subst (λ l. Adds (UpTo (λ k. (net_in c.args.points.now).offers k ≡ []) (i + 1)) c.args.places.now l) (sym w.places-is) (one_more_no (λ k. (net_in c.args.points.now).offers k ≡ []) i (i + 1) c.args.places.now c.loop-before.places refl (λ e. of_some c.offered.result.now w.if-is_empty.ensures (c.offered.ensures ∙ e)) c.loop-before.invariant)
    ]

pub returns : goal.returns
returns c =
    let all : c.loop-before.before ≡ (net_in c.args.points.now).count = omega (arith, c.loop-before-test.false, c.loop-before.auto.before-end, c.count-before-end.ensures.value) in
    adds_same (UpTo (λ k. (net_in c.args.points.now).offers k ≡ []) c.loop-before.before) (IsEndPoint (net_in c.args.points.now)) c.args.places.now c.loop-before.places c.loop-before.invariant
    (λ j u. ((u.0, (let le = u.1 in omega (arith, le, all))), u.2))
    (λ j a. (a.0.0, (let le = a.0.1 in omega (arith, le, all)), a.1))
