-- The event with the least stamp is gone over next.
use Rattle.std.proofs.Common.{ℕ, List, sym, ap, subst, replicate, arith}
use Rattle.rcv_points.specs.Follow.{net_in}
use Rattle.rcv_guide.specs.Renewal.{ArePassed, IsRenewing, left_in}
use Rattle.rcv_guide.proofs.Passing.{next_of, left_less}
use Rattle.rcv_guide.proofs.Renewing.{none_passed, none_held, all_held}
use Rattle.rcv_guide.proofs.renewal.renewed.Goals as goal

pub loop-front-init : goal.loop-front-init
loop-front-init c = (
  subst (λ (l : List ℕ). ArePassed (net_in c.args.points.now) c.args.ledger.now.logs l c.new-passed.result.put) (sym c.new-passed.ensures.counts)
      (subst (λ (l : List ℕ). ArePassed (net_in c.args.points.now) c.args.ledger.now.logs (replicate 8 0) l) (sym c.new-passed.ensures.put) (none_passed (net_in c.args.points.now) c.args.ledger.now.logs c.requires.ordered)),
  subst (λ (l : List ℕ). IsRenewing (net_in c.args.points.now) c.args.ledger.now.logs c.args.ends.now c.args.room l c.in_ok-fresh.fresh) (sym c.new-passed.ensures.counts)
      (none_held (net_in c.args.points.now) c.args.ledger.now.logs c.requires.ordered c.args.ends.now c.args.room c.roles.result c.in_ok-fresh.fresh c.roles.ensures c.in_ok-fresh.ensures),
)

pub go_over-requires-clause-next : goal.go_over-requires-clause-next
go_over-requires-clause-next c = next_of (net_in c.args.points.now) c.args.ledger.now.logs c.requires.ordered c.loop-front.passed.counts c.in-Some.front c.in-Some.ensures

pub loop-front-smaller : goal.loop-front-smaller
loop-front-smaller c =
    let less = left_less (net_in c.args.points.now) c.args.ledger.now.logs c.requires.ordered c.loop-front.passed.counts c.in-Some.front.role (next_of (net_in c.args.points.now) c.args.ledger.now.logs c.requires.ordered c.loop-front.passed.counts c.in-Some.front c.in-Some.ensures) c.loop-front.invariant.0.eight in
    let is = ap (left_in c.args.ledger.now.logs) c.in_ok-go_over.ensures.counts in
    omega (arith, less, is)

pub returns : goal.returns
returns c = all_held (net_in c.args.points.now) c.args.ledger.now.logs c.args.ends.now c.args.room c.requires.ordered c.loop-front.passed.counts c.loop-front.passed.put c.loop-front.invariant.0 c.loop-front.fresh c.loop-front.invariant.1 c.in_default.ensures
