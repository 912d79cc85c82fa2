-- The plan in which one role alone crashes, once.
use Rattle.std.specs.Prelude.{◌≡◌, ℕ, ◌==◌, not, if◌then◌else◌, List, [], ◌∷◌, ◌++◌, filter}
use Rattle.rcv_model.specs.Plan.{PlanLine, CrashLine, every_in, limit_in, room_in, host_in, crashes_in}
use Rattle.rcv_plan.specs.Lines.{is_any_crash}

-- The lines that are no crash lines.
abbrev pub calm_lines : List PlanLine → List PlanLine
calm_lines plan = filter (λ line. not (is_any_crash line)) plan

-- These lines, and then the one crash line.
abbrev pub with_one_crash : ℕ → ℕ → List PlanLine → List PlanLine
with_one_crash r n plan = calm_lines plan ++ CrashLine r n ∷ []

-- Of crashes it says that this role has one, at this count, and no other role has any. Of all else it says what the plan says.
pub record OneCrashIsAlone : Type 0 where
  pub crashes : (r n : ℕ) (plan : List PlanLine) (q : ℕ)
      → crashes_in (with_one_crash r n plan) q ≡ (if r == q then n ∷ [] else [])
  pub every : (r n : ℕ) (plan : List PlanLine) (q : ℕ) → every_in (with_one_crash r n plan) q ≡ every_in plan q
  pub host : (r n : ℕ) (plan : List PlanLine) (q : ℕ) → host_in (with_one_crash r n plan) q ≡ host_in plan q
  pub limit : (r n : ℕ) (plan : List PlanLine) → limit_in (with_one_crash r n plan) ≡ limit_in plan
  pub room : (r n : ℕ) (plan : List PlanLine) → room_in (with_one_crash r n plan) ≡ room_in plan
