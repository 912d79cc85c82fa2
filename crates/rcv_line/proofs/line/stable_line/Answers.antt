-- From all events down, each step by an event that no stable line has.
use Rattle.std.proofs.Common.{sym, subst, arith}
use Rattle.std.specs.Prelude.{slice_index}
use Rattle.rcv_points.specs.Follow.{net_in}
use Rattle.rcv_line.proofs.Lines.{all_above, lines_stay, line_found, sum_less}
use Rattle.rcv_line.proofs.line.stable_line.Goals as goal

pub returns : goal.returns
returns c = line_found (net_in c.args.points.now) c.args.ledger.now.logs c.args.every.now c.loop-role.counted c.loop-role.invariant.0 c.in_default.ensures c.loop-role.invariant.1 c.loop-role.invariant.2

pub loop-role-init : goal.loop-role-init
loop-role-init c = (
  c.settle.ensures.counted,
  c.settle.ensures.even,
  lines_stay (net_in c.args.points.now) c.args.ledger.now.logs (slice_index c.args.every.now) c.all-counted.result.counts c.settle.new.self.counts c.settle.ensures.above
      (all_above (net_in c.args.points.now) c.args.ledger.now.logs (slice_index c.args.every.now) c.all-counted.result.counts c.all-counted.ensures.counts),
)

pub loop-role-preserved : goal.loop-role-preserved
loop-role-preserved c = (
  c.settle-in-Some.ensures.counted,
  c.settle-in-Some.ensures.even,
  lines_stay (net_in c.args.points.now) c.args.ledger.now.logs (slice_index c.args.every.now) c.lower_to_saved.new.counted.counts c.settle-in-Some.new.self.counts c.settle-in-Some.ensures.above
      (c.lower_to_saved.ensures.above c.loop-role.invariant.2),
)

pub loop-role-smaller : goal.loop-role-smaller
loop-role-smaller c =
    let eight = c.loop-role.invariant.0.eight in
    let now = c.settle-in-Some.ensures.counted.eight in
    let low = c.settle-in-Some.ensures.low in
    let before = c.lower_to_saved.ensures.low in
    let less = c.lower_to_saved.ensures.less in
    sum_less c.settle-in-Some.new.self.counts c.loop-role.counted.counts c.in-Some.role (omega (arith, eight, now)) (λ r. (let a = low r in let b = before r in omega (arith, a, b))) (let a = low c.in-Some.role in omega (arith, a, less))
