-- What the machine does with symbols that the grammar derives.
use Rattle.std.proofs.Common.{◌≡◌, List, [], ◌∷◌, refl, ◌∙◌, cond, not, false, Option, Some, None}
use Rattle.rcv_script.specs.declared.fault.Fault.{Fault}
use Rattle.rcv_script.specs.declared.fault.Fault.TheVariants as faults
use Rattle.rcv_script.specs.Symbols.{Symbol}
use Rattle.rcv_script.specs.Machine.{Place, Item, Outcome, On, Wrong, Taken, unless, fault_if, takes_bare, place_in, at_end, step}
use Rattle.rcv_script.specs.Table.{begins_an_atom, parentheses}
use Rattle.rcv_script.proofs.Deriving.{AllLines}
use Rattle.rcv_script.proofs.Least.{Frame, Speaks}
use Rattle.rcv_script.proofs.Viewing.{View, view}

-- The machine goes from what is awaited through the symbols, at none of which a code from 31 on holds, and says these lines at
-- the end; or it stops with the least code that holds at a symbol.
abbrev pub ToldBy : Frame → Outcome → List Symbol → Symbol → (Item → Type 0) → Type 0
ToldBy frame (On j) back t rest = Speaks frame None back t × rest j
ToldBy frame (Wrong f) back t rest = Speaks frame (Some f) back t

abbrev pub Told : Frame → Item → List Symbol → List Symbol → AllLines → Type 0
Told frame i back [] ss = at_end i ≡ Taken ss
Told frame i back (t ∷ ts) ss = ToldBy frame (step i t) back t (λ j. Told frame j (t ∷ back) ts ss)

pub tell : (frame : Frame) (o : Option Fault) (j : Item) (back : List Symbol) (t : Symbol) (rest : Item → Type 0)
    → Speaks frame o back t → (o ≡ None → rest j) → ToldBy frame (unless o (On j)) back t rest
tell frame None j back t rest s go = (s, go refl)
tell frame (Some f) j back t rest s go = s

-- at a symbol against which nothing speaks
pub along : {A B : Type 0} → A → B → A × B
along a b = (a, b)

-- a place in an expression, with what speaks against the words value and attempt
abbrev pub Computes : Frame → Place → View → Type 0
Computes frame p v =
    let bare = takes_bare frame.messages (place_in frame.roles v.role) v.label in
    (v.remembering ≡ not v.deciding) × (p.names ≡ v.names)
    × (p.value ≡ cond v.deciding (Some faults.Variable) (fault_if bare faults.NoPayload))
    × (p.attempt ≡ cond v.deciding None (Some faults.AttemptInState))

-- an atom, a product or a sum is over, which began behind these symbols
pub record Over (back next : List Symbol) : Type 0 where
  pub same : view next ≡ view back
  pub braces : parentheses next ≡ parentheses back
  pub whole : begins_an_atom next ≡ false

pub onward : {a b c : List Symbol} → view b ≡ view a → parentheses b ≡ parentheses a → Over b c → Over a c
onward e f o = record { same = o.same ∙ e; braces = o.braces ∙ f; whole = o.whole }
