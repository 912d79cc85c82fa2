-- Plans in which no role crashes twice at one count.
use Rattle.std.proofs.Common.{◌≡◌, ℕ, Bool, true, false, List, [], ◌∷◌, ◌++◌, refl, ap, subst, inl, inr}
use Rattle.std.specs.Prelude.{◌⊎◌, ◌||◌}
use Rattle.rcv_model.specs.Plan.{PlanLine, CrashLine}
use Rattle.rcv_plan.specs.Lines.{has_crash, is_crash, AreOnce}

pub none_once : AreOnce []
none_once [] back r n e = absurd cc
none_once (x ∷ front) back r n e = absurd cc

-- x is the line behind these, or it is one of these
abbrev Place : List PlanLine → PlanLine → List PlanLine → PlanLine → Type 0
Place plan line front x = ((line ≡ x) × (plan ≡ front)) ⊎ ((between : List PlanLine) × (plan ≡ front ++ x ∷ between))

place : (plan front back : List PlanLine) (line x : PlanLine) → plan ++ line ∷ [] ≡ front ++ x ∷ back → Place plan line front x
place [] [] back line x e = inl (cc, refl)
place [] (y ∷ []) back line x e = absurd cc
place [] (y ∷ z ∷ front) back line x e = absurd cc
place (p ∷ plan) [] back line x e = inr (plan, cc)
place (p ∷ plan) (y ∷ front) back line x e = more (place plan front back line x cc)
  where
    same : p ≡ y
    same = cc

    more : Place plan line front x → Place (p ∷ plan) line (y ∷ front) x
    more (inl h) = let a = same in let b = h.1 in inl (h.0, cc)
    more (inr h) = let a = same in let b = h.1 in inr (h.0, cc)

-- a line more
pub once_more : (plan : List PlanLine) (line : PlanLine) → AreOnce plan → ((r n : ℕ) → line ≡ CrashLine r n → has_crash r n plan ≡ false) → AreOnce (plan ++ line ∷ [])
once_more plan line once alone front back r n e = go (place plan front back line (CrashLine r n) e)
  where
    go : Place plan line front (CrashLine r n) → has_crash r n front ≡ false
    go (inl h) = subst (λ (l : List PlanLine). has_crash r n l ≡ false) h.1 (alone r n h.0)
    go (inr h) = once front h.0 r n h.1

-- the role and the count are all that matters
pub same_crash : (r n q c : ℕ) (lines : List PlanLine) → CrashLine r n ≡ CrashLine q c → has_crash r n lines ≡ false → has_crash q c lines ≡ false
same_crash r n q c lines e h =
    let role : r ≡ q = cc in
    let count : n ≡ c = cc in
    subst (λ (z : ℕ). has_crash z c lines ≡ false) role (subst (λ (z : ℕ). has_crash r z lines ≡ false) count h)

pub once_crash : (plan : List PlanLine) (r n : ℕ) → AreOnce plan → has_crash r n plan ≡ false → AreOnce (plan ++ CrashLine r n ∷ [])
once_crash plan r n once h = once_more plan (CrashLine r n) once (λ q c e. same_crash r n q c plan e h)

or_false : (a b : Bool) → (a || b) ≡ false → b ≡ false
or_false true b e = absurd cc
or_false false b e = e

-- without the first line
pub once_behind : (line : PlanLine) (plan : List PlanLine) → AreOnce (line ∷ plan) → AreOnce plan
once_behind line plan once front back r n e =
    or_false (is_crash r n line) (has_crash r n front) (once (line ∷ front) back r n (ap (λ (l : List PlanLine). line ∷ l) e))
