-- The receiver of a channel that owes has an event, and without it the counts are still at least what is kept.
use Rattle.std.proofs.Common.{◌<◌, ◌%◌, sym, ap, subst, arith}
use Rattle.std.specs.Prelude.{slice_index}
use Rattle.std.specs.List.{sum}
use Rattle.rcv_points.specs.Follow.{net_in}
use Rattle.rcv_depend.specs.Cuts.{IsAbove}
use Rattle.rcv_depend.proofs.Keeping.{less_sum, lower_less, some_within, still_above}
use Rattle.rcv_depend.proofs.cut.Counted.even_out.Goals as goal

pub lower-requires-clause-role : goal.lower-requires-clause-role
lower-requires-clause-role g c = c.requires.owes.receiver

pub lower-requires-clause-some : goal.lower-requires-clause-some
lower-requires-clause-some g c = some_within (net_in c.args.points.now) (g.L.EventLogs.logs c.args.logs.now) c.loop-self.self c.args.place c.loop-self.invariant.0 (record { sender = c.requires.owes.sender; receiver = c.requires.owes.receiver; more = c.loop-self-test.true })

pub loop-self-smaller : goal.loop-self-smaller
loop-self-smaller g c =
    let some = some_within (net_in c.args.points.now) (g.L.EventLogs.logs c.args.logs.now) c.loop-self.self c.args.place c.loop-self.invariant.0 (record { sender = c.requires.owes.sender; receiver = c.requires.owes.receiver; more = c.loop-self-test.true }) in
    let eight = c.loop-self.invariant.0.eight in
    subst (λ cs. sum cs < sum c.loop-self.self.counts) (sym c.lower.ensures.counts) (less_sum c.loop-self.self.counts (c.args.place % 8) (omega (arith, eight)) some)

pub loop-self-preserved : goal.loop-self-preserved
loop-self-preserved g c =
    let net = net_in c.args.points.now in
    let logs = g.L.EventLogs.logs c.args.logs.now in
    let counts = c.loop-self.self.counts in
    let receiver = c.args.place % 8 in
    let some = some_within net logs c.loop-self.self c.args.place c.loop-self.invariant.0 (record { sender = c.requires.owes.sender; receiver = c.requires.owes.receiver; more = c.loop-self-test.true }) in
    let eight = c.loop-self.invariant.0.eight in
    let fewer : sum c.lower.new.self.counts < sum counts = subst (λ cs. sum cs < sum counts) (sym c.lower.ensures.counts) (less_sum counts receiver (omega (arith, eight)) some) in
    let most = c.loop-self.invariant.3 in (
      c.lower.ensures.counted,
      λ r. (let a = lower_less counts receiver r in let b = ap (λ l. slice_index l r) c.lower.ensures.counts in let d = c.loop-self.invariant.1 r in omega (arith, a, b, d)),
      λ bound above. subst (IsAbove net logs bound) (sym c.lower.ensures.counts) (still_above net logs c.loop-self.self c.args.place c.loop-self.invariant.0 (record { sender = c.requires.owes.sender; receiver = c.requires.owes.receiver; more = c.loop-self-test.true }) bound (c.loop-self.invariant.2 bound above)),
      omega (arith, fewer, most),
      λ even. omega (arith, fewer, most),
    )
