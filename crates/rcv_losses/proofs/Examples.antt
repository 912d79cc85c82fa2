-- Worked examples: what restarting everybody costs, and numbers that don't fit.
use Rattle.std.proofs.Common.{◌≡◌, ℕ, None, List, [], ◌∷◌, refl, arith}
use Rattle.rcv_costs.specs.declared.numbers.Cost.{Cost}
use Rattle.rcv_losses.specs.Totals.{costs_by, undone_in_all, kept_in_all}

abbrev of_role : ℕ → ℕ → ℕ → Cost
of_role r undone kept = record { role = r; count = 1; before = None; after = None; lost = 0; undone = undone; kept = kept; concerned = record { 0 = 0 }; again = 0 }

abbrev some : List Cost
some = of_role 1 1 2 ∷ of_role 0 5 6 ∷ of_role 1 2 3 ∷ []

-- the costs of role 1 alone
its_own : kept_in_all (costs_by 1 some) ≡ 5
its_own = refl

not_of_others : kept_in_all (costs_by 1 some) ≡ 11 → ⊥
not_of_others e = omega (arith, e)

not_undone : kept_in_all (costs_by 1 some) ≡ undone_in_all (costs_by 1 some) → ⊥
not_undone e = omega (arith, e)
