-- Sums over roles that a loop adds up.
use Rattle.std.proofs.Common.{◌≡◌, ℕ, zero, suc, ◌+◌, ◌-◌, ◌<◌, ◌≤◌, List, ◌∷◌, length, refl, ap, ◌∙◌, arith}
use Rattle.std.specs.Prelude.{if◌then◌else◌}
use Rattle.std.specs.List.{sum_by, range_with_len}
use Rattle.std.proofs.lemmas.List.Sums.{sum_by-cons}
use Rattle.rcv_tree.specs.Bits.{has_bit, is_listed}
use Rattle.rcv_model.specs.Run.{acts}
use Rattle.rcv_model.specs.Plan.{PlanLine, host_in}
use Rattle.rcv_model.specs.Journal.{State, durable}
use Rattle.rcv_session.specs.Session.{SessionView, rules_of}
use Rattle.rcv_plan.specs.Plans.{IsGroup}
use Rattle.rcv_core.proofs.Filling.{sum_up_to}
use Rattle.rcv_costs.specs.Losses.{lost_by}

pub one_role_more : (f : ℕ → ℕ) (n now more : ℕ) → now ≡ sum_by f (range_with_len 0 n) → more ≡ f n → now + more ≡ sum_by f (range_with_len 0 (n + 1))
one_role_more f n now more so one =
    let last = sum_up_to f n in
    let e = ap (λ k. sum_by f (range_with_len 0 k)) (next n) in
    omega (arith, so, one, last, e)
  where
    next : (k : ℕ) → suc k ≡ k + 1
    next k = omega arith

pub sums_alike : (f g : ℕ → ℕ) (a n : ℕ) → ((r : ℕ) → a ≤ r → r < a + n → f r ≡ g r) → sum_by f (range_with_len a n) ≡ sum_by g (range_with_len a n)
sums_alike f g a zero same = refl
sums_alike f g a (suc n) same =
    let here = same a (omega arith) (omega arith) in
    let ih = sums_alike f g (a + 1) n (λ r le lt. same r (omega (arith, le)) (omega (arith, lt))) in
    omega (arith, here, ih, sum_by-cons f a (range_with_len (a + 1) n), sum_by-cons g a (range_with_len (a + 1) n))

-- what a role of the group loses
pub lost_told : (session : SessionView) (s : State) (p q : ℕ) (plan : List PlanLine) (set n : ℕ) → plan ≡ session.plan → IsGroup plan p set → q < 8 → n ≡ (if has_bit set q then length (acts q s.kept) - durable (rules_of session) s q else 0) → n ≡ lost_by (rules_of session) s p q
lost_told session s p q plan set n same group lt is =
    is ∙ ap (λ b. if b then length (acts q s.kept) - durable (rules_of session) s q else 0) (group q lt ∙ ap (λ (l : List PlanLine). is_listed (p ∷ host_in l p) q) same)
