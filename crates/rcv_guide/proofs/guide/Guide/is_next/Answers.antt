-- The next points are looked at one after another.
use Rattle.std.proofs.Common.{◌≡◌, refl, subst, arith}
use Rattle.std.proofs.lemmas.Bool.Decides.{nat_tests}
use Rattle.rcv_guide.specs.Guide.{IsNextOf}
use Rattle.rcv_accept.proofs.Lists.{item_in, none_next, none_in}
use Rattle.rcv_guide.proofs.guide.Guide.is_next.Goals as goal

pub returns-then-eq : goal.returns-then-eq
returns-then-eq c =
    let here : c.next-item.result ≡ c.args.point = (let f = c.if-eq.true in let g = c.eq.ensures in grind (arith, nat_tests)) in (
      (λ t. subst (λ p. IsNextOf c.args.self.now c.args.role p) here (c.next-next-items.ensures.sound c.next-item.result (item_in c.next-next-items.result.now c.loop-next.next-index c.next-item.result c.loop-next-test.true c.next-item.is))),
      λ n. refl,
    )

pub loop-next-preserved : goal.loop-next-preserved
loop-next-preserved c =
    let other : c.next-item.result ≡ c.args.point → ⊥ = (λ e. let f = c.if-eq.false in let g = c.eq.ensures in absurd (grind (arith, nat_tests))) in
    none_next (λ p. p ≡ c.args.point) c.next-next-items.result.now c.loop-next.next-index c.next-item.result c.loop-next-test.true c.next-item.is other c.loop-next.invariant

pub returns : goal.returns
returns c = (
  (λ t. absurd (cc)),
  λ n. absurd (none_in (λ p. p ≡ c.args.point) c.next-next-items.result.now c.loop-next.next-index c.loop-next-test.false c.loop-next.invariant (c.args.point, c.next-next-items.ensures.complete c.args.point n, refl)),
)
