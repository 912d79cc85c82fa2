-- From all events down, each step by events that no stable line has.
use Rattle.std.proofs.Common.{arith}
use Rattle.rcv_points.specs.Follow.{net_in}
use Rattle.rcv_guide.proofs.Lines.{seeds_within, all_above, above_lower, lines_stay, line_found, sum_less, one_less}
use Rattle.rcv_guide.proofs.line.line.Goals as goal

pub loop-back-init : goal.loop-back-init
loop-back-init c = (
  c.settle.ensures.counted,
  c.settle.ensures.even,
  lines_stay (net_in c.args.points.now) c.args.ledger.now.logs c.args.numbers.now c.args.saves.now c.requires.logs.0 c.requires.logs.1 c.all-counted.result.counts c.settle.new.self.counts c.settle.ensures.above
      (all_above (net_in c.args.points.now) c.args.ledger.now.logs c.args.numbers.now c.args.saves.now c.all-counted.result.counts c.all-counted.ensures.counts),
)

pub unsaved-requires-clause-seeds : goal.unsaved-requires-clause-seeds
unsaved-requires-clause-seeds c = seeds_within (net_in c.args.points.now) c.args.ledger.now.logs c.args.numbers.now c.args.saves.now c.requires.numbered c.loop-back.counted c.loop-back.invariant.0 c.loop-back.invariant.2

pub loop-back-smaller : goal.loop-back-smaller
loop-back-smaller c =
    let eight = c.loop-back.invariant.0.eight in
    let now = c.settle-in-Some.ensures.counted.eight in
    let low = c.settle-in-Some.ensures.low in
    let less = c.in-Some.ensures.less in
    let there = c.lower_to.ensures.there in
    sum_less c.settle-in-Some.new.self.counts c.loop-back.counted.counts c.in-Some.back.role (omega (arith, eight, now))
    (λ r. (let a = low r in let b = one_less c.loop-back.counted.counts c.lower_to.new.counted.counts c.in-Some.back.role c.in-Some.back.count less there c.lower_to.ensures.others r in omega (arith, a, b)))
    (let a = low c.in-Some.back.role in omega (arith, a, less, there))

pub loop-back-preserved : goal.loop-back-preserved
loop-back-preserved c = (
  c.settle-in-Some.ensures.counted,
  c.settle-in-Some.ensures.even,
  lines_stay (net_in c.args.points.now) c.args.ledger.now.logs c.args.numbers.now c.args.saves.now c.requires.logs.0 c.requires.logs.1 c.lower_to.new.counted.counts c.settle-in-Some.new.self.counts c.settle-in-Some.ensures.above
      (above_lower (net_in c.args.points.now) c.args.ledger.now.logs c.args.numbers.now c.args.saves.now c.loop-back.counted.counts c.lower_to.new.counted.counts c.in-Some.back.role c.in-Some.back.count c.in-Some.ensures.last c.lower_to.ensures.there c.lower_to.ensures.others c.loop-back.invariant.2),
)

pub behind_seeds-requires-clause-seeds : goal.behind_seeds-requires-clause-seeds
behind_seeds-requires-clause-seeds c = seeds_within (net_in c.args.points.now) c.args.ledger.now.logs c.args.numbers.now c.args.saves.now c.requires.numbered c.loop-back.counted c.loop-back.invariant.0 c.loop-back.invariant.2

pub returns : goal.returns
returns c = line_found (net_in c.args.points.now) c.args.ledger.now.logs c.args.numbers.now c.args.saves.now c.loop-back.counted c.behind_seeds.result c.requires.numbered c.loop-back.invariant.0 c.loop-back.invariant.1 c.loop-back.invariant.2 c.in_default.ensures c.behind_seeds.ensures
