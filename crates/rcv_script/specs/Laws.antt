-- What holds of each list of symbols.
use Rattle.std.specs.Prelude.{◌≡◌, ◌⊎◌, ℕ, List}
use Rattle.rcv_model.specs.Script.{Line}
use Rattle.rcv_points.specs.Follow.{PointView}
use Rattle.rcv_script.specs.declared.fault.Fault.{Fault}
use Rattle.rcv_script.specs.Symbols.{Symbol}
use Rattle.rcv_script.specs.Refusals.{IsFirst, AreRead}

-- The symbols are read as scripts, or there is a first and least code.
abbrev pub IsAnswered : List (List ℕ) → List PointView → List Symbol → Type 0
IsAnswered roles messages symbols =
    ((ss : List (List Line)) × AreRead roles messages symbols ss)
    ⊎ ((f : Fault) × (left : List Symbol) × IsFirst roles messages symbols f left)

-- Scripts are read or refused, never both. Those that are written by the grammar and in which no code holds are read as
-- what they say, and say nothing else. There is one first and least code.
pub record ScriptsHaveOneAnswer : Type 0 where
  pub answered : (roles : List (List ℕ)) (messages : List PointView) (symbols : List Symbol) → IsAnswered roles messages symbols
  pub either : (roles : List (List ℕ)) (messages : List PointView) (symbols : List Symbol) (ss : List (List Line))
      → (f : Fault) (left : List Symbol) → AreRead roles messages symbols ss → IsFirst roles messages symbols f left → ⊥
  pub one : (roles : List (List ℕ)) (messages : List PointView) (symbols : List Symbol) (ss others : List (List Line))
      → AreRead roles messages symbols ss → AreRead roles messages symbols others → ss ≡ others
  pub first : (roles : List (List ℕ)) (messages : List PointView) (symbols : List Symbol) (f g : Fault) (left other : List Symbol)
      → IsFirst roles messages symbols f left → IsFirst roles messages symbols g other → (f ≡ g) × (left ≡ other)
