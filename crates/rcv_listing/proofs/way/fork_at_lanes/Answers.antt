-- One lane more.
use Rattle.std.proofs.Common.{◌≡◌, List, ℕ, sym, ◌∙◌, subst, ⊎_elim, arith}
use Rattle.std.proofs.lemmas.Bool.{cases_lt}
use Rattle.rcv_model.specs.Net.{IsIn}
use Rattle.rcv_points.specs.Follow.{net_in}
use Rattle.rcv_listing.specs.Way.{IsForkOf}
use Rattle.rcv_listing.proofs.way.fork_at_lanes.Goals as goal

pub fork_of-requires-clause-text : goal.fork_of-requires-clause-text
fork_of-requires-clause-text c = λ z i. c.lanes-lane-end.ensures.within.proper.begun_in_text c.loop-lane.lane z
    (subst (IsIn z) (c.as_slice.ensures ∙ c.lane_start.ensures) i)

pub loop-lane-preserved : goal.loop-lane-preserved
loop-lane-preserved c = λ k p l fork. ⊎_elim
    (λ less. c.loop-lane.invariant k p less fork)
    (λ past. let same : k ≡ c.loop-lane.lane = omega (arith, l, past) in
    c.in_default.ensures.fork p (subst (λ (ps : List ℕ). IsForkOf (net_in c.args.points.now) c.args.role c.args.place ps p) (sym (c.as_slice.ensures ∙ c.lane_start.ensures))
    (subst (λ (j : ℕ). IsForkOf (net_in c.args.points.now) c.args.role c.args.place ((net_in c.args.points.now).begins j) p) same fork)))
    (cases_lt k c.loop-lane.lane)

pub returns-clause-fork : goal.returns-clause-fork
returns-clause-fork c = λ l p less fork. c.loop-lane.invariant l p (omega (arith, less, c.lanes-lane-end.ensures.value)) fork
