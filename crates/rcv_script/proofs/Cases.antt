-- Worked cases of the table.
use Rattle.std.proofs.Common.{◌≡◌, ℕ, zero, suc, false, List, [], ◌∷◌, ◌++◌, codes, refl, rules, replicate}
use Rattle.rcv_script.specs.declared.sign.Sign.TheVariants as signs
use Rattle.rcv_script.specs.declared.fault.Fault.{Fault}
use Rattle.rcv_script.specs.declared.fault.Fault.TheVariants as faults
use Rattle.rcv_script.specs.Symbols.{Symbol, Is, Number}
use Rattle.rcv_script.specs.Refusals.{backward}
use Rattle.rcv_script.specs.Table.{Holds, is_role, is_label, is_variable, is_too_many, nesting}
use Rattle.rcv_script.proofs.Examples.{roles, messages, w, of_a, var_x, send, on, set_x}

-- the code holds behind these symbols at this one
abbrev AllHold : List (Fault × List Symbol × Symbol) → Type 0
AllHold [] = Unit {0}
AllHold (c ∷ cs) = Holds roles messages c.0 (backward c.1 []) c.2 × AllHold cs

abbrev closed : List Symbol → List Symbol
closed more = Is signs.Close ∷ w (codes "role") ∷ more

abbrev sum : List Symbol → List Symbol
sum front = of_a (send (codes "big") front)

-- n times these symbols
abbrev times : ℕ → List Symbol → List Symbol
times zero front = []
times (suc n) front = front ++ times n front

abbrev pick_big : List Symbol
pick_big = w (codes "pick") ∷ w (codes "big") ∷ Is signs.Semicolon ∷ []

they_hold : AllHold (
    -- an unknown role, and a second script of one
    (faults.Role, of_a (closed []), w (codes "C")) ∷ (faults.Role, of_a (closed []), w (codes "A"))
    -- a label that is never sent, one that has a line, and one that is never picked
    ∷ (faults.Label, of_a (w (codes "send") ∷ []), w (codes "low"))
    ∷ (faults.Label, sum (Number 1 ∷ Is signs.Semicolon ∷ w (codes "send") ∷ []), w (codes "big"))
    ∷ (faults.Label, of_a (w (codes "pick") ∷ []), w (codes "low"))
    -- a variable that is declared twice, one with a word of expressions, one that isn't declared, and one of another script
    ∷ (faults.Variable, of_a (var_x ++ w (codes "var") ∷ []), w (codes "x"))
    ∷ (faults.Variable, of_a (w (codes "var") ∷ []), w (codes "attempt"))
    ∷ (faults.Variable, of_a (var_x ++ send (codes "big") (w (codes "x") ∷ Is signs.Plus ∷ [])), w (codes "y"))
    ∷ (faults.Variable, of_a (var_x ++ closed (w (codes "B") ∷ Is signs.Open ∷ on (codes "big") [])), w (codes "x"))
    ∷ (faults.Variable, of_a (w (codes "pick") ∷ w (codes "big") ∷ w (codes "when") ∷ []), w (codes "value"))
    ∷ (faults.AttemptInState, of_a (var_x ++ set_x (codes "low") []), w (codes "attempt"))
    -- a number for a message without sorts, and of one
    ∷ (faults.NoPayload, of_a (w (codes "send") ∷ []), w (codes "ping"))
    ∷ (faults.NoPayload, of_a (var_x ++ set_x (codes "ping") (Number 1 ∷ Is signs.Plus ∷ [])), w (codes "value"))
    -- the 33rd sign or parenthesis, the 17th variable and the 257th line
    ∷ (faults.TooMany, sum (replicate 32 (Is signs.Minus)), Is signs.Minus)
    ∷ (faults.TooMany, sum (replicate 31 (Is signs.Left) ++ Is signs.Minus ∷ []), Is signs.Left)
    ∷ (faults.TooMany, of_a (times 16 var_x), w (codes "var")) ∷ (faults.TooMany, of_a (times 256 pick_big), w (codes "pick")) ∷ [])
they_hold = search (rules, refl, tt) depth 40

-- a first script of a role, a part in a message that is received, a variable with a word of the grammar
they_do_not :
    (is_role roles (backward (of_a (closed [])) []) (w (codes "B")) ≡ false)
    × (is_label roles messages (backward (of_a (w (codes "on") ∷ [])) []) (w (codes "low")) ≡ false)
    × (is_variable (backward (of_a (w (codes "var") ∷ [])) []) (w (codes "var")) ≡ false)
    × (is_too_many (backward (sum (replicate 31 (Is signs.Left))) []) (Is signs.Left) ≡ false)
    × (is_too_many (backward (of_a (times 255 pick_big)) []) (w (codes "pick")) ≡ false)
they_do_not = (refl, refl, refl, refl, refl)

-- a sign is over behind its atom, one in front of a parenthesis behind that
signs_over :
    (nesting (backward (sum (Is signs.Minus ∷ Is signs.Left ∷ Is signs.Minus ∷ Number 1 ∷ Is signs.Times ∷ [])) []) ≡ 2)
    × (nesting (backward (sum (Is signs.Minus ∷ Is signs.Left ∷ Number 1 ∷ Is signs.Right ∷ Is signs.Minus ∷ [])) []) ≡ 0)
signs_over = (refl, refl)
