-- Which scripts are read, and where they are refused: at the first symbol, or at the end, at which a code holds, with the
-- least one.
use Rattle.std.specs.Prelude.{◌≡◌, ℕ, List, [], ◌∷◌, ◌++◌, length}
use Rattle.rcv_tree.specs.declared.refusal.Refusal.TheVariants as refusals
use Rattle.rcv_lexer.specs.Refusing as table
pub use Rattle.rcv_lexer.specs.Refusing.{backward}
use Rattle.rcv_lexer.specs.declared.token.Token.{Token}
use Rattle.rcv_tree.specs.declared.refusal.TextError.{TextError}
use Rattle.rcv_tree.specs.declared.refusal.TextError.TheVariants as errors
use Rattle.rcv_model.specs.Script.{Line}
use Rattle.rcv_points.specs.Follow.{PointView}
use Rattle.rcv_script.specs.declared.fault.Fault.{Fault}
use Rattle.rcv_script.specs.declared.fault.Fault.TheVariants as faults
use Rattle.rcv_script.specs.Symbols.{Symbol, symbols_of, line_before}
use Rattle.rcv_script.specs.Grammar.{WrittenScript, scripts_text, IsDerived, IsBeginning}
use Rattle.rcv_script.specs.Meaning.{no_lines, scripts_say}
use Rattle.rcv_script.specs.Table.{Holds}

-- the code of a fault
abbrev pub code_of : Fault → ℕ
code_of faults.Token = 30
code_of faults.Role = 31
code_of faults.Label = 32
code_of faults.Variable = 33
code_of faults.AttemptInState = 34
code_of faults.NoPayload = 35
code_of faults.TooMany = 36

-- The code holds at the symbol with which left begins, if front stands before it; at the end nothing is left. Code 30 is at a
-- symbol that the grammar doesn't have there, and at the end of what isn't whole. No other code is at the end.
abbrev pub HoldsAt : List (List ℕ) → List PointView → Fault → List Symbol → List Symbol → Type 0
HoldsAt roles messages faults.Token front [] = IsBeginning front × (IsDerived front → ⊥)
HoldsAt roles messages faults.Token front (t ∷ ts) = IsBeginning front × (IsBeginning (front ++ t ∷ []) → ⊥)
HoldsAt roles messages f front [] = ⊥
HoldsAt roles messages f front (t ∷ ts) = Holds roles messages f (backward front []) t

-- no code holds at any symbol, nor at the end
abbrev pub IsFree : List (List ℕ) → List PointView → List Symbol → Type 0
IsFree roles messages symbols = table.IsFree (HoldsAt roles messages) symbols

-- the first of the table's codes, which holds at what is left
abbrev pub IsFirst : List (List ℕ) → List PointView → List Symbol → Fault → List Symbol → Type 0
IsFirst roles messages symbols f left = table.IsFirst code_of (HoldsAt roles messages) symbols f left

-- The grammar derives the symbols, no code holds in them, and this is what they say, role by role.
pub record AreRead (roles : List (List ℕ)) (messages : List PointView) (symbols : List Symbol) (scripts : List (List Line)) : Type 0 where
  pub written : List WrittenScript
  pub derived : symbols ≡ scripts_text written
  pub free : IsFree roles messages symbols
  pub said : scripts ≡ scripts_say roles (no_lines roles) written

-- the first code of the table, with the line of its token or of the end
abbrev pub IsRefused : List ℕ → List Token → ℕ → List (List ℕ) → List PointView → TextError → Type 0
IsRefused bundle tokens last roles messages errors.Memory = Unit {0}
IsRefused bundle tokens last roles messages (errors.Refused r) =
    (fault : Fault) × (left : List Symbol) × IsFirst roles messages (symbols_of bundle tokens) fault left
    × (r ≡ refusals.Text (code_of fault) (line_before tokens last (length left)))
