-- Restarting everybody costs no less than a crash.
use Rattle.std.proofs.Common.{ℕ, ◌≤◌, Bool, true, false, cond, List, [], ◌∷◌, ◌++◌, arith}
use Rattle.std.specs.Prelude.{◌==◌}
use Rattle.std.specs.List.{All, sum_by}
use Rattle.std.proofs.lemmas.List.Sums.{sum_by-cons}
use Rattle.std.proofs.lemmas.List.Elements.{All-nil, All-cons, All-head, All-tail}
use Rattle.rcv_tree.specs.declared.entry.Entry.{Entry}
use Rattle.rcv_tree.specs.declared.entry.Entry.TheVariants.{Recover}
use Rattle.rcv_model.specs.Journal.{Rules, State, start, after, reading_from}
use Rattle.rcv_model.specs.Final.{IsStep, IsOneThreadFrom}
use Rattle.rcv_session.specs.Session.{SessionView, rules_of}
use Rattle.rcv_costs.specs.declared.numbers.Cost.{Cost}
use Rattle.rcv_costs.specs.Costs.{IsRead, IsCostOf}
use Rattle.rcv_costs.specs.Rehearsal.{crash_session}
use Rattle.rcv_losses.specs.Totals.{costs_by, undone_in_all, RestartingCostsNoLess}

-- an entry of one thread's journal is a step
step_there : (rules : Rules) (s : State) (front : List Entry) (e : Entry) (back : List Entry) → IsOneThreadFrom rules s (front ++ e ∷ back) → IsStep rules (reading_from rules s front) e
step_there rules s [] e back x = x.0
step_there rules s (d ∷ front) e back x = step_there rules (after rules s d) front e back x.1

one : (session : SessionView) (cost : Cost) → IsRead session cost → cost.undone ≤ cost.kept
one session cost is =
    let rules = rules_of session in
    let step = step_there rules (start rules.roles) is.front (Recover cost.role cost.concerned is.keeps cost.undone) is.back is.journal in
    let undone = step.1.undone in
    let kept = is.kept_is in
    omega (arith, undone, kept)

each_one : (session : SessionView) (run : List Entry) (costs : List Cost) → All (IsCostOf session run) costs → All (λ (c : Cost). c.undone ≤ c.kept) costs
each_one session run [] all = All-nil (λ (c : Cost). c.undone ≤ c.kept)
each_one session run (cost ∷ costs) all =
    All-cons (λ (c : Cost). c.undone ≤ c.kept) cost costs
    (one (crash_session session cost.role cost.count) cost (All-head (IsCostOf session run) cost costs all).numbers)
    (each_one session run costs (All-tail (IsCostOf session run) cost costs all))

sums : (r : ℕ) (costs : List Cost) → All (λ (c : Cost). c.undone ≤ c.kept) costs → undone_in_all (costs_by r costs) ≤ sum_by (λ (c : Cost). c.kept) (costs_by r costs)
sums r [] all = omega arith
sums r (cost ∷ costs) all = go (cost.role == r) (sums r costs (All-tail (λ (c : Cost). c.undone ≤ c.kept) cost costs all)) (All-head (λ (c : Cost). c.undone ≤ c.kept) cost costs all)
  where
    go : (b : Bool) → undone_in_all (costs_by r costs) ≤ sum_by (λ (c : Cost). c.kept) (costs_by r costs) → cost.undone ≤ cost.kept → undone_in_all (cond b (cost ∷ costs_by r costs) (costs_by r costs)) ≤ sum_by (λ (c : Cost). c.kept) (cond b (cost ∷ costs_by r costs) (costs_by r costs))
    go true rest here =
        let more = sum_by-cons (λ (c : Cost). c.undone) cost (costs_by r costs) in
        let most = sum_by-cons (λ (c : Cost). c.kept) cost (costs_by r costs) in
        let both : undone_in_all (cost ∷ costs_by r costs) ≤ sum_by (λ (c : Cost). c.kept) (cost ∷ costs_by r costs) = omega (arith, more, most, rest, here) in
        both
    go false rest here = rest

pub no_less : RestartingCostsNoLess
no_less = record {
  each = λ session costs are. each_one session are.run costs.list.items are.each;
  together = λ session costs r are few.
      let most = sums r costs.list.items (each_one session are.run costs.list.items are.each) in
      omega (arith, most, few);
}
