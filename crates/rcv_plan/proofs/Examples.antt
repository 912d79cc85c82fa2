-- A plan as it could have been read for two roles, and three that couldn't.
use Rattle.std.proofs.Common.{List, [], ◌∷◌, refl, arith}
use Rattle.std.proofs.lemmas.List.Elements.{All-head, All-cons}
use Rattle.rcv_model.specs.Plan.{PlanLine, CrashLine}
use Rattle.rcv_plan.specs.Lines.{IsLineFor, IsPlanFor, AreOnce, IsPlanned}
use Rattle.rcv_plan.proofs.Crashes.{none_once, once_crash}

-- both roles crash at 3, and the first one at 4 too
abbrev crashes : List PlanLine
crashes = CrashLine 0 3 ∷ CrashLine 1 3 ∷ CrashLine 0 4 ∷ []

are_once : AreOnce crashes
are_once = once_crash (CrashLine 0 3 ∷ CrashLine 1 3 ∷ []) 0 4 (once_crash (CrashLine 0 3 ∷ []) 1 3 (once_crash [] 0 3 none_once refl) refl) refl

no_lines : IsPlanFor 2 []
no_lines k d l = absurd (omega (arith, l))

is_planned : IsPlanned 2 crashes
is_planned = record {
  fits =
      All-cons (IsLineFor 2) (CrashLine 0 3) (CrashLine 1 3 ∷ CrashLine 0 4 ∷ []) (omega arith, omega arith)
      (All-cons (IsLineFor 2) (CrashLine 1 3) (CrashLine 0 4 ∷ []) (omega arith, omega arith)
      (All-cons (IsLineFor 2) (CrashLine 0 4) [] (omega arith, omega arith) no_lines));
  once = are_once;
}

-- the second role crashes twice at 3
crashes_twice : IsPlanned 2 (CrashLine 1 3 ∷ CrashLine 0 3 ∷ CrashLine 1 3 ∷ []) → ⊥
crashes_twice p = let before = p.once (CrashLine 1 3 ∷ CrashLine 0 3 ∷ []) [] 1 3 refl in cc

-- no second role is declared
undeclared : IsPlanned 1 (CrashLine 1 3 ∷ []) → ⊥
undeclared p = let first = All-head (IsLineFor 1) (CrashLine 1 3) [] p.fits in omega (arith, first.0)

-- the count is out of its range
out_of_range : IsPlanned 2 (CrashLine 1 100064 ∷ []) → ⊥
out_of_range p = let first = All-head (IsLineFor 2) (CrashLine 1 100064) [] p.fits in omega (arith, first.1)
