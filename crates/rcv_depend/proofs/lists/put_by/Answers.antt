-- One event more, which may be on the channel.
use Rattle.std.proofs.Common.{ℕ, length, cond, refl, sym, ◌∙◌, ap, arith}
use Rattle.std.proofs.lemmas.Option.{slice_get_read}
use Rattle.rcv_points.specs.Follow.{net_in}
use Rattle.rcv_depend.proofs.Lowering.{next_put}
use Rattle.rcv_depend.proofs.lists.put_by.Goals as goal
use Rattle.rcv_depend.proofs.lists.put_by.Goals.{then-puts, else-puts}

pub puts-requires-clause-first : goal.puts-requires-clause-first
puts-requires-clause-first c = (c.requires c.loop-number.number c.index-log-number.result (slice_get_read c.args.log.now (length c.args.log.now) c.loop-number.number c.index-log-number.result refl c.loop-number-test.true c.index-log-number.is)).first

pub puts-requires-clause-last : goal.puts-requires-clause-last
puts-requires-clause-last c = (c.requires c.loop-number.number c.index-log-number.result (slice_get_read c.args.log.now (length c.args.log.now) c.loop-number.number c.index-log-number.result refl c.loop-number-test.true c.index-log-number.is)).last

pub loop-number-preserved : goal.loop-number-preserved
loop-number-preserved c =
    let there = slice_get_read c.args.log.now (length c.args.log.now) c.loop-number.number c.index-log-number.result refl c.loop-number-test.true c.index-log-number.is in
    let next = next_put (net_in c.args.points.now) c.args.from c.args.to c.loop-number.number c.args.log.now c.index-log-number.result there in
    let a = c.loop-number.invariant in
    elim c.if-puts.branch [
      | then-puts w ↦
          let one = ap {B = ℕ} (λ b. cond b 1 0) (sym c.puts.ensures ∙ w.if-puts.true) in
          let n = w.count-is in
          (omega (arith, a.0, next, one, n), omega (arith, a.1, n))
      | else-puts w ↦
          let none = ap {B = ℕ} (λ b. cond b 1 0) (sym c.puts.ensures ∙ w.if-puts.false) in
          let n = w.count-is in
          (omega (arith, a.0, next, none, n), omega (arith, a.1, n))
    ]
