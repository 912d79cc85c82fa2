-- One place more.
use Rattle.std.proofs.Common.{ℕ, get_or, arith}
use Rattle.rcv_accept.proofs.Rows.{each_pushed, long_pushed}
use Rattle.rcv_tables.specs.OnLine.{line_in}
use Rattle.rcv_tables.specs.Sets.{IsTwin}
use Rattle.rcv_tables.proofs.Pairs.{twin_in_line}
use Rattle.rcv_tables.proofs.Reading.{got}
use Rattle.rcv_tables.proofs.twins.twins_of.Goals as goal

pub loop-place-preserved : goal.loop-place-preserved
loop-place-preserved c =
    let lt = c.loop-place-test.true in
    let count = c.count-place-end.ensures.value in
    record {
      all = long_pushed c.loop-place.twins.items c.push.new.self.items c.twin_of.result c.loop-place.place c.in_ok-push.ensures.items c.loop-place.invariant.all;
      each = each_pushed (λ k (twin : ℕ). IsTwin (line_in c.args.points.now) k twin) c.loop-place.twins.items c.push.new.self.items c.twin_of.result c.loop-place.place c.in_ok-push.ensures.items c.loop-place.invariant.all c.loop-place.invariant.each (twin_in_line c.args.points.now c.args.line.now c.loop-place.place c.twin_of.result c.requires (omega (arith, lt, count)) c.twin_of.ensures);
    }

pub returns : goal.returns
returns c =
    let long = c.loop-place.invariant.all in
    let ge = c.loop-place-test.false in
    let le = c.loop-place.auto.place-end in
    let count = c.count-place-end.ensures.value in
    record {
      all = omega (arith, long, ge, le, count);
      each = λ k low. c.loop-place.invariant.each k (get_or c.loop-place.twins.items k 0) (got c.loop-place.twins.items k 0 (omega (arith, long, ge, low, count)));
    }
