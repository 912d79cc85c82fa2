-- Each offered point that isn't the role's is added in turn.
use Rattle.std.proofs.Common.{◌≡◌, ◌∙◌, ◌+◌, ℕ, List, length, take, refl, ap, sym, subst, arith}
use Rattle.std.proofs.Math.Seq.{take-length}
use Rattle.rcv_model.specs.Next.{IsOf}
use Rattle.rcv_points.specs.Follow.{net_in}
use Rattle.rcv_points.specs.Found.{Adds, IsOther, AreInText}
use Rattle.rcv_points.proofs.Finding.{no_flag_is_up}
use Rattle.rcv_points.proofs.Adding.{item_of, more_yes, more_no}
use Rattle.rcv_points.proofs.Marking.{nothing_new}
use Rattle.rcv_points.proofs.Within.{listed_is}
use Rattle.rcv_points.proofs.search.add_others.Goals as goal
use Rattle.rcv_points.proofs.search.add_others.Goals.{then-not-is_of, else-not-is_of}

pub is_of-requires-clause-first : goal.is_of-requires-clause-first
is_of-requires-clause-first c = (listed_is c.args.points.now c.as_slice-point-items.result.now c.loop-point.point-index c.point.inside.0 c.count.ensures.within (subst (AreInText (net_in c.args.points.now)) (sym c.as_slice-point-items.ensures) c.requires.text) c.loop-point-test.true (c.point.view_is ∙ item_of c.as_slice-point-items.result.now c.loop-point.point-index c.point-item.result c.loop-point-test.true c.point-item.is)).first

pub is_of-requires-clause-last : goal.is_of-requires-clause-last
is_of-requires-clause-last c = (listed_is c.args.points.now c.as_slice-point-items.result.now c.loop-point.point-index c.point.inside.0 c.count.ensures.within (subst (AreInText (net_in c.args.points.now)) (sym c.as_slice-point-items.ensures) c.requires.text) c.loop-point-test.true (c.point.view_is ∙ item_of c.as_slice-point-items.result.now c.loop-point.point-index c.point-item.result c.loop-point-test.true c.point-item.is)).last

pub add-requires : goal.add-requires
add-requires c = (listed_is c.args.points.now c.as_slice-point-items.result.now c.loop-point.point-index c.point.inside.0 c.count.ensures.within (subst (AreInText (net_in c.args.points.now)) (sym c.as_slice-point-items.ensures) c.requires.text) c.loop-point-test.true (c.point.view_is ∙ item_of c.as_slice-point-items.result.now c.loop-point.point-index c.point-item.result c.loop-point-test.true c.point-item.is)).few

pub loop-point-preserved : goal.loop-point-preserved
loop-point-preserved c =
    let q = c.point.view_is ∙ item_of c.as_slice-point-items.result.now c.loop-point.point-index c.point-item.result c.loop-point-test.true c.point-item.is in
    elim c.if-not-is_of.branch [
      | then-not-is_of w ↦ more_yes (λ p. IsOf (net_in c.args.points.now) c.args.role p → ⊥) c.as_slice-point-items.result.now c.loop-point.point-index c.point.inside.0 c.args.places.now c.loop-point.places c.if-not-is_of.places c.loop-point-test.true q (λ o. no_flag_is_up (w.if-not-is_of.ensures.1 o)) c.loop-point.invariant (subst (λ l. Adds (λ j. j ≡ c.point.inside.0) c.loop-point.places l) (sym w.places-is) w.add.ensures.adds)
      | else-not-is_of w ↦ subst (λ l. Adds (IsOther (net_in c.args.points.now) c.args.role (take (c.loop-point.point-index + 1) c.as_slice-point-items.result.now)) c.args.places.now l) (sym w.places-is) (more_no (λ p. IsOf (net_in c.args.points.now) c.args.role p → ⊥) c.as_slice-point-items.result.now c.loop-point.point-index c.point.inside.0 c.args.places.now c.loop-point.places c.loop-point-test.true q (λ n. n (w.if-not-is_of.ensures.0 refl)) c.loop-point.invariant)
    ]

pub returns-then-is_empty : goal.returns-then-is_empty
returns-then-is_empty c =
    nothing_new (net_in c.args.points.now) c.args.role c.args.offered.now c.args.places.now c.args.own.0 c.as_set.result.0 c.difference-others.result.0 c.points.result.0 c.difference-fresh.result.0 c.as_set.ensures c.requires.own c.difference-others.ensures c.points.ensures c.difference-fresh.ensures (c.is_empty.ensures.0 c.if-is_empty.true)

pub returns : goal.returns
returns c =
    let items = c.as_slice-point-items.result.now in
    let at_end : c.loop-point.point-index ≡ length items = omega (arith, c.loop-point-test.false, c.loop-point.auto.point-index-end) in
    let all : take c.loop-point.point-index items ≡ c.args.offered.now = ap (λ n. take n items) at_end ∙ take-length items ∙ c.as_slice-point-items.ensures in
    subst (λ (l : List ℕ). Adds (IsOther (net_in c.args.points.now) c.args.role l) c.args.places.now c.loop-point.places) all c.loop-point.invariant
