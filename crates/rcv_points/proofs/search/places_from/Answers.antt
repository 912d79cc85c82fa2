-- Each place is visited in turn, and what it offers to others is found.
use Rattle.std.proofs.Common.{◌<◌, length, ap, subst, sym, get_or, ◌∙◌, arith}
use Rattle.rcv_model.specs.Net.{IsIn}
use Rattle.rcv_points.specs.Follow.{net_in}
use Rattle.rcv_points.specs.Found.{Adds, IsOther, IsWayFrom}
use Rattle.rcv_points.proofs.Adding.{in_at}
use Rattle.rcv_points.proofs.Searching.{LeadsOn, at_start, visited, way_first, way_on, way_within, at_end}
use Rattle.rcv_points.proofs.search.places_from.Goals as goal

pub loop-done-init : goal.loop-done-init
loop-done-init c =
    at_start (IsOther (net_in c.args.points.now) c.args.role c.args.first.now) (IsWayFrom (net_in c.args.points.now) c.args.role c.args.first.now) (LeadsOn (net_in c.args.points.now) c.args.role) c.add_others.new.places (way_first (net_in c.args.points.now) c.args.role c.args.first.now)
    (subst (λ l. Adds (IsOther (net_in c.args.points.now) c.args.role c.args.first.now) l c.add_others.new.places) c.new-places.ensures c.add_others.ensures)

pub place-requires : goal.place-requires
place-requires c =
    let lt : c.loop-done.done < length c.loop-done.places = subst (λ l. c.loop-done.done < length l) c.as_slice.ensures.all c.loop-done-test.true in
    let here = subst (λ l. IsIn (get_or l c.loop-done.done 0) c.loop-done.places) (sym c.as_slice-in-loop-done.ensures.all) (in_at c.loop-done.places c.loop-done.done lt) in
    way_within (net_in c.args.points.now) c.args.role 8 c.args.first.now (get_or c.as_slice-in-loop-done.result.now c.loop-done.done 0) c.count.ensures.within.proper c.requires.text (c.loop-done.invariant.sound (get_or c.as_slice-in-loop-done.result.now c.loop-done.done 0) here)

pub add_others-requires-in-loop-done-clause-text : goal.add_others-requires-in-loop-done-clause-text
add_others-requires-in-loop-done-clause-text c = λ p i. c.count.ensures.within.proper.in_text (get_or c.as_slice-in-loop-done.result.now c.loop-done.done 0) p (subst (IsIn p) c.place.ensures i)

pub loop-done-preserved : goal.loop-done-preserved
loop-done-preserved c =
    let net = net_in c.args.points.now in
    let lt : c.loop-done.done < length c.loop-done.places = subst (λ l. c.loop-done.done < length l) c.as_slice.ensures.all c.loop-done-test.true in
    visited (IsOther net c.args.role c.args.first.now) (IsWayFrom net c.args.role c.args.first.now) (LeadsOn net c.args.role) c.loop-done.places c.add_others-in-loop-done.new.places c.loop-done.done (λ p f o. way_on net c.args.role c.args.first.now (get_or c.loop-done.places c.loop-done.done 0) p f o) c.loop-done.invariant lt
    (subst (λ ps. Adds (IsOther net c.args.role ps) c.loop-done.places c.add_others-in-loop-done.new.places) (c.place.ensures ∙ ap (λ l. net.offers (get_or l c.loop-done.done 0)) c.as_slice-in-loop-done.ensures.all) c.add_others-in-loop-done.ensures)

pub returns-clause-all : goal.returns-clause-all
returns-clause-all c = at_end (net_in c.args.points.now) c.args.role c.args.first.now c.loop-done.places c.loop-done.done c.loop-done.invariant (let e = ap length c.as_slice.ensures.all in let f = c.loop-done-test.false in omega (arith, e, f))

pub returns-clause-within : goal.returns-clause-within
returns-clause-within c j i = way_within (net_in c.args.points.now) c.args.role 8 c.args.first.now j c.count.ensures.within.proper c.requires.text (c.loop-done.invariant.sound j i)
