-- Which plans are read, and where one is refused: at the first symbol, or at the end, at which a code holds, with the
-- least one.
use Rattle.std.specs.Prelude.{◌≡◌, ℕ, List, [], ◌∷◌, ◌++◌, length, map}
use Rattle.rcv_tree.specs.declared.refusal.Refusal.TheVariants as refusals
use Rattle.rcv_lexer.specs.Refusing as table
pub use Rattle.rcv_lexer.specs.Refusing.{backward}
use Rattle.rcv_lexer.specs.declared.token.Token.{Token}
use Rattle.rcv_tree.specs.declared.refusal.TextError.{TextError}
use Rattle.rcv_tree.specs.declared.refusal.TextError.TheVariants as errors
use Rattle.rcv_model.specs.Plan.{PlanLine}
use Rattle.rcv_plan.specs.Symbols.{Symbol, symbols_of, line_before}
use Rattle.rcv_plan.specs.declared.fault.Fault.{Fault}
use Rattle.rcv_plan.specs.declared.fault.Fault.TheVariants as faults
use Rattle.rcv_plan.specs.declared.fault.PlanError.{PlanError}
use Rattle.rcv_plan.specs.declared.fault.PlanError.TheVariants as causes
use Rattle.rcv_plan.specs.Grammar.{Written, plan_text, IsDerived, IsBeginning, said}
use Rattle.rcv_plan.specs.Codes.{Holds}

abbrev pub code_of : Fault → ℕ
code_of faults.Token = 40
code_of faults.Role = 41
code_of faults.Twice = 42
code_of faults.Range = 43

-- The code holds here: front stands before, and left begins with the symbol at which the code holds; at the end nothing is left.
-- Code 40 holds at a symbol that the grammar doesn't have there, and at the end of what isn't whole. No other code holds at the
-- end.
abbrev pub HoldsAt : List (List ℕ) → Fault → List Symbol → List Symbol → Type 0
HoldsAt roles faults.Token front [] = IsBeginning front × (IsDerived front → ⊥)
HoldsAt roles faults.Token front (t ∷ ts) = IsBeginning front × (IsBeginning (front ++ t ∷ []) → ⊥)
HoldsAt roles f front [] = ⊥
HoldsAt roles f front (t ∷ ts) = Holds roles f (backward front []) t ts

-- no code holds at any symbol, nor at the end
abbrev pub IsFree : List (List ℕ) → List Symbol → Type 0
IsFree roles symbols = table.IsFree (HoldsAt roles) symbols

-- the first of the table's codes, which holds at what is left
abbrev pub IsFirst : List (List ℕ) → List Symbol → Fault → List Symbol → Type 0
IsFirst roles symbols f left = table.IsFirst code_of (HoldsAt roles) symbols f left

-- The grammar derives the list, no code holds in it, and these are the lines that its items say, in order.
pub record IsRead (roles : List (List ℕ)) (symbols : List Symbol) (lines : List PlanLine) : Type 0 where
  pub items : List Written
  pub derived : symbols ≡ plan_text items
  pub free : IsFree roles symbols
  pub said_by : lines ≡ map (said roles) items

-- the first code of the table, with the line of its token or of the end
abbrev pub IsRefused : List ℕ → List Token → ℕ → List (List ℕ) → TextError → Type 0
IsRefused bundle list last roles errors.Memory = Unit {0}
IsRefused bundle list last roles (errors.Refused r) =
    (fault : Fault) × (left : List Symbol) × IsFirst roles (symbols_of bundle list) fault left
    × (r ≡ refusals.Text (code_of fault) (line_before list last (length left)))

-- The reader stopped for the first code of the list, which holds at what is left.
abbrev pub Ends : List (List ℕ) → PlanError → List Symbol → List Symbol → Type 0
Ends roles causes.Memory old new = Unit {0}
Ends roles (causes.Refused f) old new = IsFirst roles old f new
