-- What each code has: a name, and an explanation as text.
use Rattle.std.specs.Prelude.{◌≡◌, ℕ, ◌⊎◌, codes, decimal, List, [], ◌∷◌, ◌++◌, Option, Some, None}
use Rattle.std.specs.declared.alloc.Global.{Global}
use Rattle.std.specs.declared.vec.Vec.{Vec}
use Rattle.rcv_input.specs.Line.{code_names}
use Rattle.rcv_explain.specs.declared.explanation.Explanation.{Explanation}

-- The code has this name in a list of codes with their names.
abbrev pub IsNameIn : List (ℕ × List ℕ) → ℕ → List ℕ → Type 0
IsNameIn [] code name = ⊥
IsNameIn (e ∷ es) code name = ((code ≡ e.0) × (name ≡ e.1)) ⊎ IsNameIn es code name

-- A refusal with this code has this name.
abbrev pub IsNamed : ℕ → List ℕ → Type 0
IsNamed code name = IsNameIn code_names code name

-- There is a rule with this code.
abbrev pub HasRule : ℕ → Type 0
HasRule code = (name : List ℕ) × IsNamed code name

-- An explanation as text: code and name, the rule, the example with what it says, the repair, the repaired example.
abbrev pub spelled : ℕ → Explanation → List ℕ
spelled code e =
    decimal code ++ codes " " ++ e.name.now ++ codes "\n\n" ++ e.rule.now ++ codes "\n\n" ++ e.example.now ++ codes "\n"
    ++ codes "    " ++ e.refusal.now ++ codes "\n\n" ++ codes "Repair: " ++ e.repair.now ++ codes "\n\n" ++ e.repaired.now

-- What is written for a code: its explanation, if it has a rule.
abbrev pub IsToldOf : ℕ → Option (Vec ℕ Global) → Type 0
IsToldOf code None = HasRule code → ⊥
IsToldOf code (Some text) = (e : Explanation) × IsNamed code e.name.now × (text.items ≡ spelled code e)
