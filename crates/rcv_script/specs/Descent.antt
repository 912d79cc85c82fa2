-- What the functions of the descent say: how the machine goes on with what was read, or stops.
use Rattle.std.specs.Prelude.{◌≡◌, ℕ, ◌-◌, ◌*◌, Bool, true, false, List, ◌∷◌, Result, Ok, Err}
use Rattle.rcv_model.specs.Script as script
use Rattle.rcv_points.specs.Follow.{PointView}
use Rattle.rcv_script.specs.declared.fault.ScriptError.{ScriptError}
use Rattle.rcv_script.specs.declared.fault.ScriptError.TheVariants as errors
use Rattle.rcv_script.specs.declared.formula.Banned.{Banned}
use Rattle.rcv_script.specs.declared.sign.Sign.{Sign}
use Rattle.rcv_script.specs.declared.sign.Sign.TheVariants as signs
use Rattle.rcv_script.specs.Symbols.{Symbol}
use Rattle.rcv_script.specs.Machine.{Item, Lines, Place, Writing, with_line, reading, Refuses, answer}

-- The machine stops at what is left, whatever is awaited next.
abbrev pub Halts : {A : Type 0} → ScriptError → (A → Item) → List Symbol → List Symbol → Type 0
Halts errors.Memory front old new = Unit {0}
Halts {A} (errors.Refused fault) front old new = (k : A) → answer (front k) old ≡ Refuses fault new

-- It comes to what is awaited next, for what was read, or stops.
abbrev pub Goes :
    {X Y : Type 0} → Result X ScriptError → ((Y → Item) → Item) → (X → Y) → List Symbol → List Symbol → Type 0
Goes {X} {Y} (Ok x) front said old new = (k : Y → Item) → answer (front k) old ≡ answer (k (said x)) new
Goes {X} {Y} (Err e) front said old new = Halts e front old new

-- a place inside so many parentheses and signs
abbrev pub at_depth : List (List ℕ) → Banned → ℕ → Place
at_depth names banned depth = record { names = names; value = banned.value; attempt = banned.attempt; depth = depth }

-- a line was read and added to what is written, or it stops
abbrev pub Adds :
    {X : Type 0} → Result X ScriptError → (Writing → (List (List ℕ) × script.Line → Item) → Item) → Writing → Writing
    → List Symbol → List Symbol → Type 0
Adds (Ok x) front was now old new =
    (k : List script.Line → Item) → answer (front was (λ x. Lines (with_line was x) k)) old ≡ answer (Lines now k) new
Adds (Err e) front was now old new =
    Halts e (λ (k : List script.Line → Item). front was (λ x. Lines (with_line was x) k)) old new

-- it comes to what is awaited after something that says nothing, or stops
abbrev pub Passes : {X : Type 0} → Result X ScriptError → (Item → Item) → List Symbol → List Symbol → Type 0
Passes (Ok x) front old new = (k : Item) → answer (front k) old ≡ answer k new
Passes (Err e) front old new = Halts e front old new

-- the mark in front of a term
abbrev pub term_sign : Bool → Sign
term_sign false = signs.Plus
term_sign true = signs.Minus

-- it stops at this fault, with these symbols left
abbrev pub Ceases : List (List ℕ) → List PointView → ScriptError → List Symbol → List Symbol → Type 0
Ceases roles messages errors.Memory old new = Unit {0}
Ceases roles messages (errors.Refused fault) old new = reading roles messages old ≡ Refuses fault new

-- so many places on the stack are enough for a product inside so many parentheses and signs
abbrev pub rooms : ℕ → ℕ
rooms depth = 2 * (33 - depth)

-- An expression was built after what was, and the machine comes to what is awaited after it.
pub record Written (front : (script.Expr → Item) → Item) (behind : script.Expr → (script.Expr → Item) → Item)
    (was built : script.Expr × List script.Expr) (old new : List Symbol) : Type 0 where
  pub expr : script.Expr
  pub is : built ≡ (expr, was.0 ∷ was.1)
  pub goes : (k : script.Expr → Item) → answer (front k) old ≡ answer (behind expr k) new

-- it was, or the machine stops
abbrev pub Writes :
    {X : Type 0} → Result X ScriptError → (was built : script.Expr × List script.Expr) → ((script.Expr → Item) → Item)
    → List Symbol → List Symbol → Type 0
Writes (Ok x) was built front old new = Written front (λ e k. k e) was built old new
Writes (Err e) was built front old new = Halts e front old new
