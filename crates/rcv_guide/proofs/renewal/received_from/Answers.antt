-- One event after another.
use Rattle.std.proofs.Common.{length-take-le, take, sym, ◌∙◌, arith}
use Rattle.rcv_model.specs.Run.{taken_by}
use Rattle.rcv_points.specs.Follow.{net_in}
use Rattle.rcv_ledger.specs.Logs.{log_at}
use Rattle.rcv_guide.proofs.Staying.{taken_yes, taken_no}
use Rattle.rcv_guide.proofs.Reserved.{no_longer}
use Rattle.rcv_guide.proofs.renewal.received_from.Goals as goal
use Rattle.rcv_guide.proofs.renewal.received_from.Goals.{then-takes, else-takes}

pub takes-requires : goal.takes-requires
takes-requires c = c.requires.sound c.args.to c.loop-place.place c.event.result.now c.event.ensures

pub overflow_add-received : goal.overflow_add-received
overflow_add-received c =
    let a = c.loop-place.invariant in
    let b = no_longer (taken_by (net_in c.args.points.now) c.args.from c.args.to) (take c.loop-place.place (log_at c.args.ledger.now.logs c.args.to)) in
    let d = length-take-le c.loop-place.place (log_at c.args.ledger.now.logs c.args.to) (omega (arith, c.loop-place-test.true, c.requires.end)) in
    omega (arith, a, b, d, c.loop-place-test.true, c.ranges.end.fits)

pub loop-place-preserved : goal.loop-place-preserved
loop-place-preserved c =
    let a = c.loop-place.invariant in
    elim c.if-takes.branch [
      | then-takes w ↦
          let b = taken_yes (net_in c.args.points.now) c.args.from c.args.to c.loop-place.place (log_at c.args.ledger.now.logs c.args.to) c.event.result.now c.event.ensures (sym c.takes.ensures ∙ w.if-takes.true) in
          let d = w.received-is in
          omega (arith, a, b, d)
      | else-takes w ↦
          let b = taken_no (net_in c.args.points.now) c.args.from c.args.to c.loop-place.place (log_at c.args.ledger.now.logs c.args.to) c.event.result.now c.event.ensures (sym c.takes.ensures ∙ w.if-takes.false) in
          let d = w.received-is in
          omega (arith, a, b, d)
    ]
