-- From all events down to what the failed roles may keep, and then until no channel owes.
use Rattle.std.proofs.Common.{sym, subst, arith}
use Rattle.rcv_points.specs.Follow.{net_in}
use Rattle.rcv_depend.specs.Keeps.{ceiling_of}
use Rattle.rcv_depend.specs.Cuts.{IsAbove}
use Rattle.rcv_depend.proofs.Keeping.{IsLow, low_less, lower_less, start_above, lose_above, kept_now}
use Rattle.rcv_depend.proofs.cut.cut.Goals as goal

pub loop-role-init : goal.loop-role-init
loop-role-init g c = (
  c.all-counted.ensures.counted,
  λ r lt t. absurd (omega (arith, lt)),
  start_above (net_in c.args.points.now) (g.L.EventLogs.logs c.args.logs.now) (ceiling_of c.args.keeps.now) c.all-counted.result.counts c.all-counted.ensures.counts,
)

pub lower-requires-clause-sound : goal.lower-requires-clause-sound
lower-requires-clause-sound g c = g.met.L.EventLogs.sound c.args.logs.now (net_in c.args.points.now) c.requires.protocol

pub settle-requires-clause-sound : goal.settle-requires-clause-sound
settle-requires-clause-sound g c = g.met.L.EventLogs.sound c.args.logs.now (net_in c.args.points.now) c.requires.protocol

pub loop-counted-preserved : goal.loop-counted-preserved
loop-counted-preserved g c =
    let net = net_in c.args.points.now in
    let logs = g.L.EventLogs.logs c.args.logs.now in
    let counts = c.loop-counted.counted.counts in
    let role = c.loop-role.role in
    let eight = c.loop-counted.invariant.0.eight in
    let few = c.requires.few.eight in
    let lt = c.loop-role-test.true in
    let len = c.roles-role-end.ensures in
    let keep = c.in-Some.ensures.1 in
    let more = c.loop-counted-test.true in (
      c.lower.ensures.counted,
      subst (λ cs. IsLow c.args.keeps.now cs role) (sym c.lower.ensures.counts) (low_less c.args.keeps.now counts _ role (lower_less counts role) c.loop-counted.invariant.1),
      subst (IsAbove net logs (ceiling_of c.args.keeps.now)) (sym c.lower.ensures.counts) (lose_above net logs c.args.keeps.now counts role (omega (arith, lt, len, few, eight)) c.loop-counted.invariant.2 c.in-Some.ensures.0 (omega (arith, keep, more))),
    )

pub returns : goal.returns
returns g c =
    let lt = c.loop-role-test.false in
    let len = c.roles-role-end.ensures in
    kept_now (net_in c.args.points.now) (g.L.EventLogs.logs c.args.logs.now) c.args.keeps.now c.settle.new.self c.loop-role.role (omega (arith, lt, len)) c.settle.ensures.counted
    (low_less c.args.keeps.now c.loop-role.counted.counts c.settle.new.self.counts c.loop-role.role c.settle.ensures.low c.loop-role.invariant.1)
    (c.settle.ensures.above (ceiling_of c.args.keeps.now) c.loop-role.invariant.2)
    c.settle.ensures.even
