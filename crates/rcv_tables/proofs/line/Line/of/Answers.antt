-- One place more.
use Rattle.std.proofs.Common.{◌≡◌, ℕ, List, [], get_or, ◌∙◌, arith}
use Rattle.rcv_points.specs.Follow.{net_in}
use Rattle.rcv_tables.specs.Line.{offered_on}
use Rattle.rcv_accept.proofs.Rows.{each_pushed, long_pushed}
use Rattle.rcv_tables.proofs.Reading.{got}
use Rattle.rcv_tables.proofs.line.Line.of.Goals as goal

pub loop-place-preserved : goal.loop-place-preserved
loop-place-preserved c = record {
  all = long_pushed c.loop-place.places.items c.push.new.self.items c.in_ok-of.field-0 c.loop-place.place c.in_ok-push.ensures.items c.loop-place.invariant.all;
  each = each_pushed (λ k (ps : List ℕ). ps ≡ offered_on (net_in c.args.points.now) k) c.loop-place.places.items c.push.new.self.items c.in_ok-of.field-0 c.loop-place.place c.in_ok-push.ensures.items c.loop-place.invariant.all c.loop-place.invariant.each (c.in_ok-of.ensures ∙ c.at_place.ensures);
}

pub returns : goal.returns
returns c =
    let long = c.loop-place.invariant.all in
    let ge = c.loop-place-test.false in
    let le = c.loop-place.auto.place-end in
    let count = c.count-place-end.ensures.value in
    record {
      all = omega (arith, long, ge, le, count);
      each = λ k low. c.loop-place.invariant.each k (get_or c.loop-place.places.items k []) (got c.loop-place.places.items k [] (omega (arith, long, ge, low, count)));
    }
