-- Each place is visited in turn, and what leads to it is found.
use Rattle.std.proofs.Common.{◌<◌, length, ap, subst, sym, get_or, arith}
use Rattle.rcv_model.specs.Net.{IsIn}
use Rattle.rcv_points.specs.Follow.{net_in}
use Rattle.rcv_points.specs.Found.{Adds, IsEndPoint, LeadsTo}
use Rattle.rcv_points.proofs.Adding.{in_at}
use Rattle.rcv_points.proofs.Searching.{at_start, visited}
use Rattle.rcv_points.proofs.LaneEnds.{Finishes, end_finishes, lead_finishes, finished}
use Rattle.rcv_points.proofs.ending.can_end.Goals as goal

pub loop-done-init : goal.loop-done-init
loop-done-init c =
    at_start (IsEndPoint (net_in c.args.points.now)) (Finishes (net_in c.args.points.now)) (LeadsTo (net_in c.args.points.now)) c.add_ends.new.places (end_finishes (net_in c.args.points.now))
    (subst (λ l. Adds (IsEndPoint (net_in c.args.points.now)) l c.add_ends.new.places) c.new-places.ensures c.add_ends.ensures)

pub add_leading-requires-clause-first : goal.add_leading-requires-clause-first
add_leading-requires-clause-first c =
    let lt : c.loop-done.done < length c.loop-done.places = subst (λ l. c.loop-done.done < length l) c.as_slice.ensures.all c.loop-done-test.true in
    (c.loop-done.invariant.sound (get_or c.as_slice-in-loop-done.result.now c.loop-done.done 0) (subst (λ l. IsIn (get_or l c.loop-done.done 0) c.loop-done.places) (sym c.as_slice-in-loop-done.ensures.all) (in_at c.loop-done.places c.loop-done.done lt))).0.0

pub add_leading-requires-clause-last : goal.add_leading-requires-clause-last
add_leading-requires-clause-last c =
    let lt : c.loop-done.done < length c.loop-done.places = subst (λ l. c.loop-done.done < length l) c.as_slice.ensures.all c.loop-done-test.true in
    (c.loop-done.invariant.sound (get_or c.as_slice-in-loop-done.result.now c.loop-done.done 0) (subst (λ l. IsIn (get_or l c.loop-done.done 0) c.loop-done.places) (sym c.as_slice-in-loop-done.ensures.all) (in_at c.loop-done.places c.loop-done.done lt))).0.1

pub loop-done-preserved : goal.loop-done-preserved
loop-done-preserved c =
    let lt : c.loop-done.done < length c.loop-done.places = subst (λ l. c.loop-done.done < length l) c.as_slice.ensures.all c.loop-done-test.true in
    visited (IsEndPoint (net_in c.args.points.now)) (Finishes (net_in c.args.points.now)) (LeadsTo (net_in c.args.points.now)) c.loop-done.places c.add_leading.new.places c.loop-done.done (λ p f a. lead_finishes (net_in c.args.points.now) (get_or c.loop-done.places c.loop-done.done 0) p f a) c.loop-done.invariant lt
    (subst (λ l. Adds (LeadsTo (net_in c.args.points.now) (get_or l c.loop-done.done 0)) c.loop-done.places c.add_leading.new.places) c.as_slice-in-loop-done.ensures.all c.add_leading.ensures)

pub returns : goal.returns
returns c = finished (net_in c.args.points.now) 8 c.loop-done.places c.points.result.0 c.loop-done.done c.count.ensures.within.proper c.count.ensures.within.few c.loop-done.invariant (let e = ap length c.as_slice.ensures.all in let f = c.loop-done-test.false in omega (arith, e, f)) c.points.ensures
