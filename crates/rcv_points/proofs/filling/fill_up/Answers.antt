-- One number more.
use Rattle.std.proofs.Common.{◌≡◌, ◌-◌, ◌++◌, length, replicate, sym, ◌∙◌, subst, inl, inr, arith}
use Rattle.rcv_points.proofs.Whole.{copies_none, copies_more, copies_all}
use Rattle.rcv_points.proofs.filling.fill_up.Goals as goal

pub loop-init : goal.loop-init
loop-init c =
    let e : c.len-counter.result ≡ length c.args.numbers.now.items = c.len-counter.ensures ∙ c.args.numbers.now.ok.0 in
    (omega (arith, e), inr e, subst (λ n. c.args.numbers.now.items ≡ c.args.numbers.now.items ++ replicate (n - length c.args.numbers.now.items) c.args.number) (sym e) (copies_none c.args.numbers.now.items c.args.number))

pub loop-preserved : goal.loop-preserved
loop-preserved c = (let a = c.loop.invariant.0 in omega (arith, a), inl (omega (arith, c.loop-test.true)), copies_more c.args.numbers.now.items c.loop.numbers.items c.push.new.self.items c.args.number c.loop.counter c.loop.invariant.0 c.in_ok-push.ensures.items c.loop.invariant.2)

pub returns : goal.returns
returns c = copies_all c.args.numbers.now.items c.loop.numbers.items c.args.number c.loop.counter c.args.end c.loop-test.false c.loop.invariant.1 c.loop.invariant.2
