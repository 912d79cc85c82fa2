-- Lanes are found from the last one on.
use Rattle.std.proofs.Common.{◌≡◌, ◌-◌, ℕ, List, [], ◌∷◌, ◌++◌, length, map, drop, reverse, replicate, refl, sym, ◌∙◌, ap, subst, arith}
use Rattle.rcv_tree.specs.Bits.{members}
use Rattle.rcv_model.specs.Text.{body_of}
use Rattle.rcv_points.specs.declared.lanes.LaneText.{LaneText}
use Rattle.rcv_points.specs.Follow.{PointsView}
use Rattle.rcv_points.specs.Walk.{Found, by_subject}
use Rattle.rcv_points.specs.Filling.{found}
use Rattle.rcv_points.specs.Lanes.{lane_text}
use Rattle.rcv_points.proofs.Members.{none_members}
use Rattle.rcv_points.proofs.Walks.{step_back, nothing_left}
use Rattle.rcv_points.proofs.Whole.{FoundIfFull, no_lanes, lane_found, walked}
use Rattle.rcv_points.proofs.filling.Whole.of.Goals as goal

pub loop-number-init : goal.loop-number-init
loop-number-init c =
    let texts = c.as_slice-texts.result.now in
    let start : Found = record { recs = c.new.result; places = c.new-2.result.items; messages = c.new-3.result.items; chosen = c.none.result } in
    subst (λ (l : List LaneText). FoundIfFull (map lane_text l) (length texts) (replicate 8 []) start (members c.none-start.result.0) c.new-4.result.items c.new-5.result.items) (sym (nothing_left texts))
    (subst (λ none. FoundIfFull [] (length texts) none start (members c.none-start.result.0) c.new-4.result.items c.new-5.result.items) c.none.ensures
    (no_lanes (length texts) start (members c.none-start.result.0) c.new-4.result.items c.new-5.result.items c.new.ensures c.new-2.ensures.items c.new-3.ensures.items (none_members c.none-start.result.0 c.none-start.ensures) c.new-4.ensures.items c.new-5.ensures.items))

pub loop-number-preserved : goal.loop-number-preserved
loop-number-preserved c =
    let texts = c.as_slice-texts.result.now in
    subst (λ (l : List LaneText). FoundIfFull (map lane_text l) (c.loop-number.number - 1) (replicate 8 []) (found c.lane.new.self.filling) (members c.in_ok-start.start.0) c.lane.new.self.lanes.items c.lane.new.self.lane_numbers.items)
    (sym (step_back texts c.loop-number.number c.index-texts-number.result c.loop-number-test.true c.loop-number.auto.number c.index-texts-number.is))
    (lane_found (lane_text c.index-texts-number.result) (map lane_text (drop c.loop-number.number texts)) (c.loop-number.number - 1) c.loop-number.number (replicate 8 []) (found c.loop-number.whole.filling) (found c.lane.new.self.filling) (members c.loop-number.start.0) (members c.in_ok-start.start.0) c.loop-number.whole.lanes.items c.lane.new.self.lanes.items c.loop-number.whole.lane_numbers.items c.lane.new.self.lane_numbers.items (omega (arith, c.loop-number-test.true)) c.loop-number.invariant c.in_ok-start.ensures.points c.in_ok-start.ensures.lanes c.in_ok-start.ensures.numbers)

pub returns : goal.returns
returns c roles form full =
    let texts = c.as_slice-texts.result.now in
    let points : PointsView = record { places = c.reverse.new.self.items; messages = c.reverse-2.new.self.items; choices = by_subject 0 c.loop-number.whole.filling.chosen; lanes = c.reverse-3.new.self.items; lane_numbers = c.reverse-4.new.self.items } in
    let none_left : c.loop-number.number ≡ 0 = omega (arith, c.loop-number-test.false) in
    let first = subst (λ n. FoundIfFull (map lane_text (drop n texts)) n (replicate 8 []) (found c.loop-number.whole.filling) (members c.loop-number.start.0) c.loop-number.whole.lanes.items c.loop-number.whole.lane_numbers.items) none_left c.loop-number.invariant in
    walked (body_of c.args.body.now) roles 8 (replicate 8 []) (found c.loop-number.whole.filling) (members c.loop-number.start.0) c.loop-number.whole.lanes.items c.loop-number.whole.lane_numbers.items points form full refl (omega arith)
    (subst (λ ls. FoundIfFull ls 0 (replicate 8 []) (found c.loop-number.whole.filling) (members c.loop-number.start.0) c.loop-number.whole.lanes.items c.loop-number.whole.lane_numbers.items) (ap (λ l. map lane_text l) c.as_slice-texts.ensures.value ∙ c.in_ok-lanes.ensures) first)
    (c.reverse.ensures.items ∙ ap reverse (c.in_ok-push.ensures.items ∙ ap (λ (l : List ℕ). c.loop-number.whole.filling.places.items ++ l ∷ []) c.in_ok-of.ensures)) c.reverse-2.ensures.items refl c.reverse-3.ensures.items
    (c.reverse-4.ensures.items ∙ ap reverse c.in_ok-push-2.ensures.items)
