-- The costs of one role, as a loop finds them.
use Rattle.std.proofs.Common.{◌≡◌, ℕ, suc, ◌+◌, ◌<◌, true, false, cond, List, ◌∷◌, length, drop, get_or, sym, ◌∙◌, ap, arith}
use Rattle.std.specs.Prelude.{◌==◌}
use Rattle.std.proofs.Math.Seq.{drop-cons}
use Rattle.rcv_costs.specs.declared.numbers.Cost.{Cost}
use Rattle.rcv_losses.specs.Totals.{costs_by}

-- what is left begins with the cost at the place
pub next_is : (costs : List Cost) (i : ℕ) (cost : Cost) → i < length costs → cost ≡ get_or costs i cost → drop i costs ≡ cost ∷ drop (i + 1) costs
next_is costs i cost lt e =
    let one : suc i ≡ i + 1 = omega arith in
    drop-cons costs i cost lt ∙ ap (λ (c : Cost). c ∷ drop (suc i) costs) (sym e) ∙ ap (λ n. cost ∷ drop n costs) one

pub mine : (r : ℕ) (costs : List Cost) (i : ℕ) (cost : Cost) → i < length costs → cost ≡ get_or costs i cost → (cost.role == r) ≡ true → costs_by r (drop i costs) ≡ cost ∷ costs_by r (drop (i + 1) costs)
mine r costs i cost lt e t = ap (costs_by r) (next_is costs i cost lt e) ∙ ap (λ b. cond b (cost ∷ costs_by r (drop (i + 1) costs)) (costs_by r (drop (i + 1) costs))) t

pub others : (r : ℕ) (costs : List Cost) (i : ℕ) (cost : Cost) → i < length costs → cost ≡ get_or costs i cost → (cost.role == r) ≡ false → costs_by r (drop i costs) ≡ costs_by r (drop (i + 1) costs)
others r costs i cost lt e f = ap (costs_by r) (next_is costs i cost lt e) ∙ ap (λ b. cond b (cost ∷ costs_by r (drop (i + 1) costs)) (costs_by r (drop (i + 1) costs))) f
