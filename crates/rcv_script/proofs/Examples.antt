-- Worked cases of scripts: A sends big, which has sorts, and ping, which has none; B sends low to A.
use Rattle.std.proofs.Common.{◌≡◌, ℕ, Bool, true, false, List, [], ◌∷◌, ◌++◌, length, map, codes, refl, sym, ◌∙◌, ap}
use Rattle.std.proofs.Common.{arith, rules, replicate, pos, negsuc, Some, None, slice_index_or}
use Rattle.rcv_tree.specs.declared.protocol.Protocol.{Protocol}
use Rattle.rcv_model.specs.Text.{Body, End, Single, body_of}
use Rattle.rcv_model.specs.Places.{singles}
use Rattle.rcv_model.specs.Script.{Literal, TheValue, TheAttempt, Variable, Negated, Plus, Minus, Times, More}
use Rattle.rcv_model.specs.Script.{VarLine, SendLine, PickLine, OnLine, Line}
use Rattle.rcv_points.specs.Follow.{PointView, message_of, no_message}
use Rattle.rcv_script.specs.declared.sign.Sign.TheVariants as signs
use Rattle.rcv_script.specs.declared.fault.Fault.TheVariants as faults
use Rattle.rcv_script.specs.Symbols.{Symbol, Is, Word, Number}
use Rattle.rcv_script.specs.Scripts.{ScriptsView, AreScriptsFor}
use Rattle.rcv_script.specs.Grammar.{Digits, Named, Signed, Inside, NoAtom, TimesAtom, NoProduct, PlusProduct}
use Rattle.rcv_script.specs.Grammar.{MinusProduct, SumOf, VarText, SendText, PickText, WhenText, OnText}
use Rattle.rcv_script.specs.Grammar.{WrittenScript}
use Rattle.rcv_script.specs.Refusals.{AreRead, IsFirst}
use Rattle.rcv_script.specs.declared.fault.Fault.{Fault}
use Rattle.rcv_script.proofs.Answering.{taken, refused}

abbrev message : List ℕ → ℕ → ℕ → Bool → PointView
message label sender receiver payload = record { label = label; sender = sender; receiver = receiver; payload = payload }

abbrev pub messages : List PointView
messages = message (codes "big") 0 1 true ∷ message (codes "low") 1 0 true ∷ message (codes "ping") 0 1 false ∷ []

abbrev pub roles : List (List ℕ)
roles = codes "A" ∷ codes "B" ∷ []

abbrev pub w : List ℕ → Symbol
w name = Word name

-- role A { .., its line var x = -2;, and lines of it
abbrev pub of_a : List Symbol → List Symbol
of_a lines = w (codes "role") ∷ w (codes "A") ∷ Is signs.Open ∷ lines

abbrev pub var_x : List Symbol
var_x = w (codes "var") ∷ w (codes "x") ∷ Is signs.Equals ∷ Is signs.Minus ∷ Number 2 ∷ Is signs.Semicolon ∷ []

abbrev pub send : List ℕ → List Symbol → List Symbol
send label more = w (codes "send") ∷ w label ∷ Is signs.Equals ∷ more

abbrev pub on : List ℕ → List Symbol → List Symbol
on label more = w (codes "on") ∷ w label ∷ w (codes "set") ∷ more

abbrev pub set_x : List ℕ → List Symbol → List Symbol
set_x label more = on label (w (codes "x") ∷ Is signs.Equals ∷ more)

abbrev AllRead : List (List Symbol × List (List Line)) → Type 0
AllRead [] = Unit {0}
AllRead (x ∷ xs) = AreRead roles messages x.0 x.1 × AllRead xs

-- the line of var_x and these are all
abbrev only_a : List Line → List (List Line)
only_a lines = (VarLine (negsuc 1) ∷ lines) ∷ [] ∷ []

abbrev ended : List Symbol
ended = Is signs.Semicolon ∷ Is signs.Close ∷ []

-- 32 signs may be open, and the 33rd may not.
abbrev signed : ℕ → List Symbol
signed n = of_a (send (codes "big") (replicate n (Is signs.Minus) ++ Number 1 ∷ []))

they_are_read : AllRead (
    ([], [] ∷ [] ∷ [])
    -- 1 - x - 2 * x is (1 - x) - (2 * x)
    ∷ (
      of_a (var_x ++ send (codes "big") (Number 1 ∷ Is signs.Minus ∷ w (codes "x") ∷ Is signs.Minus ∷ Number 2 ∷ Is signs.Times ∷ w (codes "x") ∷ ended)),
      only_a (SendLine (codes "big") (Minus (Minus (Literal 1) (Variable 0)) (Times (Literal 2) (Variable 0))) ∷ []),
    )
    -- pick ping when -x * (1 + attempt) > 0, and pick big
    ∷ (
      of_a (var_x ++ w (codes "pick") ∷ w (codes "ping") ∷ w (codes "when") ∷ Is signs.Minus ∷ w (codes "x") ∷ Is signs.Times ∷ Is signs.Left ∷ Number 1 ∷ Is signs.Plus ∷ w (codes "attempt") ∷ Is signs.Right ∷ Is signs.More ∷ Number 0 ∷ Is signs.Semicolon ∷ w (codes "pick") ∷ w (codes "big") ∷ ended),
      only_a (PickLine (codes "ping") (Some (record { left = Times (Negated (Variable 0)) (Plus (Literal 1) TheAttempt); test = More; right = Literal 0 })) ∷ PickLine (codes "big") None ∷ []),
    )
    -- A sees the number of low, but not one of ping.
    ∷ (of_a (var_x ++ set_x (codes "low") (w (codes "value") ∷ ended)), only_a (OnLine (codes "low") 0 TheValue ∷ [])) ∷ [])
they_are_read = search (rules, taken roles messages, refl, tt) depth 40

-- where what isn't read is refused, by which code
abbrev AllRefused : List (Fault × List Symbol × List Symbol) → Type 0
AllRefused [] = Unit {0}
AllRefused (x ∷ xs) = IsFirst roles messages (x.1 ++ x.2) x.0 x.2 × AllRefused xs

-- Each code. At a label that B alone sends it is 32, not 35, and behind whole scripts a word is 30.
they_are_refused : AllRefused (
    (faults.Token, of_a [], []) ∷ (faults.Token, of_a (Is signs.Close ∷ []), w (codes "end") ∷ []) ∷ (faults.Token, signed 32, [])
    ∷ (faults.Role, of_a (Is signs.Close ∷ w (codes "role") ∷ []), w (codes "A") ∷ Is signs.Open ∷ [])
    ∷ (faults.Role, w (codes "role") ∷ [], w (codes "C") ∷ []) ∷ (faults.Label, of_a (w (codes "send") ∷ []), w (codes "low") ∷ [])
    ∷ (faults.Label, of_a (w (codes "on") ∷ []), w (codes "far") ∷ []) ∷ (faults.Variable, of_a (send (codes "big") []), w (codes "x") ∷ [])
    ∷ (faults.AttemptInState, of_a (var_x ++ set_x (codes "ping") []), w (codes "attempt") ∷ ended)
    ∷ (faults.NoPayload, of_a (var_x ++ set_x (codes "ping") []), w (codes "value") ∷ ended)
    ∷ (faults.NoPayload, of_a (w (codes "send") ∷ []), w (codes "ping") ∷ [])
    ∷ (faults.TooMany, of_a (send (codes "big") (replicate 32 (Is signs.Minus))), Is signs.Minus ∷ Number 1 ∷ []) ∷ [])
they_are_refused = search (rules, refused roles messages, tt) depth 40

-- Scripts without lines of a protocol with this one message fit it, and don't fit one in which B sends it.
abbrev one_message : Body
one_message = Single (codes "big") (codes "Int" ∷ []) 0 1 1 End

abbrev sent : ℕ → ℕ → ScriptsView
sent sender receiver = record { lines = [] ∷ [] ∷ []; messages = message (codes "big") sender receiver true ∷ [] }

fit : (p : Protocol) → length p.roles ≡ 2 → body_of p.body ≡ one_message → AreScriptsFor p (sent 0 1)
fit p two is = record { roles = sym two; messages = ap (λ b. map message_of (singles b)) (sym is) }

unfit : (p : Protocol) → body_of p.body ≡ one_message → AreScriptsFor p (sent 1 0) → ⊥
unfit p is are =
    let e : 1 ≡ 0 = ap (λ (ms : List PointView). (slice_index_or ms 0 no_message).sender) (are.messages ∙ ap (λ b. map message_of (singles b)) is) in
    absurd (omega (arith, e))

-- Each line, each operator and each word of expressions, in the scripts of two roles.
abbrev all_forms : List WrittenScript
all_forms =
    record {
      role = codes "A";
      lines = VarText (codes "x") true 2 ∷ VarText (codes "y") false 7
          ∷ SendText (codes "big") (SumOf (Signed (Named (codes "x"))) (TimesAtom (Digits 3) NoAtom) (MinusProduct (Named (codes "attempt")) NoAtom NoProduct))
          ∷ WhenText (codes "ping") (SumOf (Named (codes "x")) NoAtom NoProduct) More (SumOf (Inside (SumOf (Digits 1) NoAtom (PlusProduct (Named (codes "y")) NoAtom NoProduct))) NoAtom NoProduct)
          ∷ PickText (codes "big")
          ∷ OnText (codes "low") (codes "y") (SumOf (Named (codes "value")) NoAtom NoProduct) ∷ [];
    }
    ∷ record { role = codes "B"; lines = [] } ∷ []

abbrev forms_text : List Symbol
forms_text = of_a (
    Word (codes "var") ∷ Word (codes "x") ∷ Is signs.Equals ∷ Is signs.Minus ∷ Number 2 ∷ Is signs.Semicolon
    ∷ Word (codes "var") ∷ Word (codes "y") ∷ Is signs.Equals ∷ Number 7 ∷ Is signs.Semicolon
    ∷ Word (codes "send") ∷ Word (codes "big") ∷ Is signs.Equals ∷ Is signs.Minus ∷ Word (codes "x") ∷ Is signs.Times ∷ Number 3 ∷ Is signs.Minus ∷ Word (codes "attempt") ∷ Is signs.Semicolon
    ∷ Word (codes "pick") ∷ Word (codes "ping") ∷ Word (codes "when") ∷ Word (codes "x") ∷ Is signs.More
    ∷ Is signs.Left ∷ Number 1 ∷ Is signs.Plus ∷ Word (codes "y") ∷ Is signs.Right ∷ Is signs.Semicolon
    ∷ Word (codes "pick") ∷ Word (codes "big") ∷ Is signs.Semicolon
    ∷ Word (codes "on") ∷ Word (codes "low") ∷ Word (codes "set") ∷ Word (codes "y") ∷ Is signs.Equals ∷ Word (codes "value") ∷ Is signs.Semicolon
    ∷ Is signs.Close ∷ Word (codes "role") ∷ Word (codes "B") ∷ Is signs.Open ∷ Is signs.Close ∷ [])

abbrev forms_lines : List Line
forms_lines =
    VarLine (negsuc 1) ∷ VarLine (pos 7) ∷ SendLine (codes "big") (Minus (Times (Negated (Variable 0)) (Literal 3)) TheAttempt)
    ∷ PickLine (codes "ping") (Some (record { left = Variable 0; test = More; right = Plus (Literal 1) (Variable 1) }))
    ∷ PickLine (codes "big") None ∷ OnLine (codes "low") 1 TheValue ∷ []

forms_read : AreRead roles messages forms_text (forms_lines ∷ [] ∷ [])
forms_read = record { written = all_forms; derived = refl; free = (taken roles messages forms_text (forms_lines ∷ [] ∷ []) refl).free; said = refl }
