-- Point by point.
use Rattle.std.proofs.Common.{◌≡◌, ◌+◌, refl, sym, ◌∙◌, subst, arith}
use Rattle.rcv_tree.specs.Bits.{IsPoint}
use Rattle.rcv_model.specs.Net.{IsIn}
use Rattle.rcv_points.specs.Follow.{net_in}
use Rattle.rcv_points.proofs.Members.{in_members, of_members}
use Rattle.rcv_points.specs.Found.{Adds, LeadsTo}
use Rattle.rcv_points.proofs.Finding.{no_flag_is_up}
use Rattle.rcv_points.proofs.Adding.{UpTo, adds_same, none_up_to, one_more_yes, one_more_no}
use Rattle.rcv_points.proofs.ending.add_leading.Goals.{then-has, else-has}
use Rattle.rcv_points.proofs.ending.add_leading.Goals as goal

pub loop-before-init : goal.loop-before-init
loop-before-init c = none_up_to (λ k. IsIn c.args.point ((net_in c.args.points.now).offers k)) c.args.places.now

pub loop-before-preserved : goal.loop-before-preserved
loop-before-preserved c =
    let i = c.loop-before.before in
    let point : IsPoint c.args.point = record { first = c.requires.first; last = (let le = c.requires.last in let few = c.count-before-end.ensures.within.few in omega (arith, le, few)) } in
    elim c.if-has.branch [
      | then-has w ↦ subst (λ l. Adds (UpTo (λ k. IsIn c.args.point ((net_in c.args.points.now).offers k)) (i + 1)) c.args.places.now l) (sym w.places-is) (one_more_yes (λ k. IsIn c.args.point ((net_in c.args.points.now).offers k)) i (i + 1) c.args.places.now c.loop-before.places w.add.new.self refl (subst (IsIn c.args.point) (sym c.offered_set.ensures) (in_members c.offered_set.result.0 c.args.point point (sym w.if-has.ensures))) c.loop-before.invariant w.add.ensures.adds)
      | else-has w ↦ subst (λ l. Adds (UpTo (λ k. IsIn c.args.point ((net_in c.args.points.now).offers k)) (i + 1)) c.args.places.now l) (sym w.places-is) (one_more_no (λ k. IsIn c.args.point ((net_in c.args.points.now).offers k)) i (i + 1) c.args.places.now c.loop-before.places refl (λ m. no_flag_is_up (w.if-has.ensures ∙ (of_members c.offered_set.result.0 c.args.point (subst (IsIn c.args.point) c.offered_set.ensures m)).1)) c.loop-before.invariant)
    ]

pub returns : goal.returns
returns c =
    let all : c.loop-before.before ≡ (net_in c.args.points.now).count = omega (arith, c.loop-before-test.false, c.loop-before.auto.before-end, c.count-before-end.ensures.value) in
    adds_same (UpTo (λ k. IsIn c.args.point ((net_in c.args.points.now).offers k)) c.loop-before.before) (LeadsTo (net_in c.args.points.now) c.args.point) c.args.places.now c.loop-before.places c.loop-before.invariant
    (λ j u. ((u.0, (let le = u.1 in omega (arith, le, all))), u.2))
    (λ j a. (a.0.0, (let le = a.0.1 in omega (arith, le, all)), a.1))
