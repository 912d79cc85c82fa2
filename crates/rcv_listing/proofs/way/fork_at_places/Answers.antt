-- One place more.
use Rattle.std.proofs.Common.{◌≡◌, List, ℕ, sym, subst, ⊎_elim, arith}
use Rattle.std.proofs.lemmas.Bool.{cases_lt}
use Rattle.rcv_model.specs.Net.{IsIn}
use Rattle.rcv_points.specs.Follow.{net_in}
use Rattle.rcv_listing.specs.Way.{IsForkOf}
use Rattle.rcv_listing.proofs.way.fork_at_places.Goals as goal

pub fork_of-requires-clause-text : goal.fork_of-requires-clause-text
fork_of-requires-clause-text c = λ z i. c.count-at-end.ensures.within.proper.in_text c.loop-at.at z (subst (IsIn z) c.offered.ensures i)

pub loop-at-preserved : goal.loop-at-preserved
loop-at-preserved c = λ k p l fork. ⊎_elim
    (λ less. c.loop-at.invariant k p less fork)
    (λ past. let same : k ≡ c.loop-at.at = omega (arith, l, past) in
    c.in_default.ensures.fork p (subst (λ (ps : List ℕ). IsForkOf (net_in c.args.points.now) c.args.role c.args.place ps p) (sym c.offered.ensures)
    (subst (λ (j : ℕ). IsForkOf (net_in c.args.points.now) c.args.role c.args.place ((net_in c.args.points.now).offers j) p) same fork)))
    (cases_lt k c.loop-at.at)

pub returns-clause-fork : goal.returns-clause-fork
returns-clause-fork c = λ k p less fork. c.loop-at.invariant k p (omega (arith, less, c.count-at-end.ensures.value)) fork
