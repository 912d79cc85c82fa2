-- Reading one symbol after another, for the contracts of the descent alone: what is awaited says itself what is awaited after
-- it, and what was read. A lemma says that it reads by grammar and table; no contract of a public function cites it.
use Rattle.std.specs.Prelude.{ℕ, ◌+◌, ◌==◌, ◌||◌, not, nat_le, Bool, false, cond, if◌then◌else◌, codes, List, [], ◌∷◌}
use Rattle.std.specs.Prelude.{◌++◌, length, Option, Some, None, is_some, slice_set, ℤ, pos, neg_ℤ, bytes_eq}
use Rattle.std.specs.List.{list_any}
use Rattle.std.specs.Option.{option_or}
pub use Rattle.rcv_tree.specs.Names.{place_of}
use Rattle.rcv_model.specs.Script.{Condition, Expr, Literal, TheValue, TheAttempt, Variable, Negated, Plus, Minus}
use Rattle.rcv_model.specs.Script.{Times, Test, Less, AtMost, Same, Differ, More, AtLeast, Line, VarLine, SendLine}
use Rattle.rcv_model.specs.Script.{PickLine, OnLine}
use Rattle.rcv_points.specs.Follow.{PointView}
use denote.Enum.Bare.{sameb}
use Rattle.rcv_script.specs.contracts.sign.Sign.{the_type}
use Rattle.rcv_script.specs.declared.sign.Sign.TheVariants as signs
use Rattle.rcv_script.specs.declared.fault.Fault.{Fault}
use Rattle.rcv_script.specs.declared.fault.Fault.TheVariants as faults
use Rattle.rcv_script.specs.declared.words.LineKind.{LineKind}
use Rattle.rcv_script.specs.declared.words.LineKind.TheVariants as kinds
use Rattle.rcv_script.specs.Symbols.{Symbol, Is, Word, Number, Text}
use Rattle.rcv_script.specs.Table.{is_own_word}
pub use Rattle.rcv_script.specs.Meaning.{no_lines}
pub use Rattle.rcv_script.specs.Labels.{place_in, sends, takes_part, sends_bare, takes_bare}

-- ---- what is known

-- In an expression: the variables declared before, what speaks against the words value and attempt, and how many
-- parentheses and signs are open.
pub record Place : Type 0 where
  pub names : List (List ℕ)
  pub value : Option Fault
  pub attempt : Option Fault
  pub depth : ℕ

-- In a script: the protocol's messages, the role, its variables and its lines so far.
pub record Writing : Type 0 where
  pub messages : List PointView
  pub role : ℕ
  pub names : List (List ℕ)
  pub lines : List Line

-- Between scripts: the protocol's roles and messages, the lines of each role, and the roles that have a script.
pub record Known : Type 0 where
  pub roles : List (List ℕ)
  pub messages : List PointView
  pub scripts : List (List Line)
  pub given : List ℕ

-- ---- what is awaited

-- Each item says what is awaited after it, for what was read.
pub data Item : Type 0 where
  Scripts : (known : Known) → Item  -- ("role" Word "{" line* "}")*
  Lines : (s : Writing) (k : List Line → Item) → Item  -- line* "}"
  ALine : (s : Writing) (k : List (List ℕ) × Line → Item) → Item  -- line
  This : (symbol : Symbol) (k : Item) → Item
  AWord : (fault : List ℕ → Option Fault) (k : List ℕ → Item) → Item  -- Word, with what speaks against it
  ASigned : (k : ℤ → Item) → Item  -- ["-"] Number
  ANumber : (k : ℕ → Item) → Item  -- Number
  AnEnd : (plain : Item) (when : Item) → Item  -- ";" or "when"
  ATest : (k : Test → Item) → Item  -- "<" | "<=" | "==" | "!=" | ">" | ">="
  AnAtom : (p : Place) (k : Expr → Item) → Item
  Factors : (p : Place) (left : Expr) (k : Expr → Item) → Item  -- ("*" atom)*
  Terms : (p : Place) (left : Expr) (k : Expr → Item) → Item  -- (("+" | "-") product)*

-- there is a step, or the fault with the least code that holds
pub data Outcome : Type 0 where
  On : (item : Item) → Outcome
  Wrong : (fault : Fault) → Outcome

-- the fault, or what follows if there is none
abbrev pub unless : Option Fault → Outcome → Outcome
unless None next = next
unless (Some fault) next = Wrong fault

-- the fault if the test holds
abbrev pub fault_if : Bool → Fault → Option Fault
fault_if test fault = cond test (Some fault) None

-- ---- names of roles, labels and variables

-- the number is one of these
abbrev pub is_listed : ℕ → List ℕ → Bool
is_listed n ns = list_any (λ other. other == n) ns

-- a role that isn't declared, or has a script before
abbrev pub new_role : List ℕ → Option ℕ → Option Fault
new_role given None = Some faults.Role
new_role given (Some r) = fault_if (is_listed r given) faults.Role

-- what speaks against the name of a role
abbrev pub role_fault : List (List ℕ) → List ℕ → List ℕ → Option Fault
role_fault roles given name = new_role given (place_of roles name)

-- a send line with this label
abbrev pub is_send_of : List ℕ → Line → Bool
is_send_of label (SendLine other expr) = bytes_eq other label
is_send_of label _ = false

-- one of these lines is a send line with this label
abbrev pub has_send : List ℕ → List Line → Bool
has_send label lines = list_any (is_send_of label) lines

-- what speaks against the second word of a line: against the name of a variable, which is declared once and isn't a word that
-- expressions read otherwise, or against a label
abbrev pub label_fault : LineKind → Writing → List ℕ → Option Fault
label_fault kinds.Var s name = fault_if (is_own_word name || is_some (place_of s.names name)) faults.Variable
label_fault kinds.Send s label =
    option_or (fault_if (not (sends s.messages s.role label) || has_send label s.lines) faults.Label)
    (fault_if (sends_bare s.messages s.role label) faults.NoPayload)
label_fault kinds.Pick s label = fault_if (not (sends s.messages s.role label)) faults.Label
label_fault kinds.On s label = fault_if (not (takes_part s.messages s.role label)) faults.Label

-- ---- expressions

-- where a send or pick line computes
abbrev pub deciding : List (List ℕ) → Place
deciding names = record { names = names; value = Some faults.Variable; attempt = None; depth = 0 }

-- where an on line computes
abbrev pub remembering : Writing → List ℕ → Place
remembering s label =
    record {
      names = s.names;
      value = fault_if (takes_bare s.messages s.role label) faults.NoPayload;
      attempt = Some faults.AttemptInState;
      depth = 0;
    }

-- inside one more parenthesis or sign
abbrev pub deeper : Place → Place
deeper p = record { names = p.names; value = p.value; attempt = p.attempt; depth = p.depth + 1 }

-- an atom, and what is multiplied with it
abbrev pub a_product : Place → (Expr → Item) → Item
a_product p k = AnAtom p (λ e. Factors p e k)

-- a product, and what is added and subtracted
abbrev pub a_sum : Place → (Expr → Item) → Item
a_sum p k = a_product p (λ e. Terms p e k)

-- the variable at a place
abbrev pub variable : Option ℕ → (Expr → Item) → Outcome
variable None k = Wrong faults.Variable
variable (Some n) k = On (k (Variable n))

-- a word in an expression
abbrev pub word_atom : Place → List ℕ → (Expr → Item) → Outcome
word_atom p w k =
    cond (bytes_eq w (codes "value")) (unless p.value (On (k TheValue)))
    (cond (bytes_eq w (codes "attempt")) (unless p.attempt (On (k TheAttempt))) (variable (place_of p.names w) k))

-- ---- lines

-- "=" expr ";"
abbrev pub with_expr : Place → (Expr → Item) → Item
with_expr p k = This (Is signs.Equals) (a_sum p (λ e. This (Is signs.Semicolon) (k e)))

-- a condition, without the mark after it
abbrev pub compared : Place → (Condition → Item) → Item
compared p k = a_sum p (λ a. ATest (λ t. a_sum p (λ b. k (record { left = a; test = t; right = b }))))

-- the word set, and the place of a variable that is declared before
abbrev pub to_set : List (List ℕ) → (ℕ → Item) → Item
to_set names k =
    This (Word (codes "set"))
    (AWord (λ n. fault_if (not (is_some (place_of names n))) faults.Variable) (λ n. k (place_in names n)))

-- what is awaited after the first two words of a line
abbrev pub rest_of_line : LineKind → Writing → List ℕ → (List (List ℕ) × Line → Item) → Item
rest_of_line kinds.Var s n k =
    This (Is signs.Equals) (ASigned (λ z. This (Is signs.Semicolon) (k (s.names ++ n ∷ [], VarLine z))))
rest_of_line kinds.Send s l k = with_expr (deciding s.names) (λ e. k (s.names, SendLine l e))
rest_of_line kinds.Pick s l k =
    AnEnd (k (s.names, PickLine l None))
    (compared (deciding s.names) (λ c. This (Is signs.Semicolon) (k (s.names, PickLine l (Some c)))))
rest_of_line kinds.On s l k = to_set s.names (λ place. with_expr (remembering s l) (λ e. k (s.names, OnLine l place e)))

-- what is awaited after the first word
abbrev pub line_behind : Writing → LineKind → (List (List ℕ) × Line → Item) → Item
line_behind s kind k = AWord (label_fault kind s) (λ n. rest_of_line kind s n k)

-- what a line does, by its first word
abbrev pub kind_of : List ℕ → Option LineKind
kind_of w =
    if bytes_eq w (codes "var") then Some kinds.Var
    else (if bytes_eq w (codes "send") then Some kinds.Send
    else (if bytes_eq w (codes "pick") then Some kinds.Pick
    else (if bytes_eq w (codes "on") then Some kinds.On
    else None)))

-- the 257th line, and the 17th variable
abbrev pub line_fault : List (List ℕ) → List Line → LineKind → Option Fault
line_fault names before kinds.Var = fault_if (nat_le 256 (length before) || nat_le 16 (length names)) faults.TooMany
line_fault names before _ = fault_if (nat_le 256 (length before)) faults.TooMany

-- the first word of a line
abbrev pub line_by : Writing → Option LineKind → (List (List ℕ) × Line → Item) → Outcome
line_by s None k = Wrong faults.Token
line_by s (Some kind) k = unless (line_fault s.names s.lines kind) (On (line_behind s kind k))

-- the first symbol of a line
abbrev pub line : Writing → Symbol → (List (List ℕ) × Line → Item) → Outcome
line s (Word w) k = line_by s (kind_of w) k
line s _ k = Wrong faults.Token

-- one more line of the role, with the variables after it
abbrev pub with_line : Writing → List (List ℕ) × Line → Writing
with_line s x = record { messages = s.messages; role = s.role; names = x.0; lines = s.lines ++ x.1 ∷ [] }

-- ---- scripts

-- the script of a role begins
abbrev pub begun : List PointView → ℕ → Writing
begun messages role = record { messages = messages; role = role; names = []; lines = [] }

-- one more script
abbrev pub with_script : Known → ℕ → List Line → Known
with_script known role ls =
    record { roles = known.roles; messages = known.messages; scripts = slice_set known.scripts role ls; given = known.given ++ role ∷ [] }

-- what stands after the word role, for the role and its lines
abbrev pub script : List (List ℕ) → List ℕ → List PointView → (ℕ × List Line → Item) → Item
script roles given messages k =
    AWord (role_fault roles given) (λ n. This (Is signs.Open) (Lines (begun messages (place_in roles n)) (λ ls. k (place_in roles n, ls))))

-- a script, and the scripts after it
abbrev pub script_of : Known → Item
script_of known = script known.roles known.given known.messages (λ x. Scripts (with_script known x.0 x.1))

-- ---- one step, and all of them

-- the symbol is the awaited one
abbrev pub meets : Symbol → Symbol → Bool
meets (Is a) (Is b) = sameb the_type a b
meets (Word a) (Word b) = bytes_eq a b
meets (Number a) (Number b) = a == b
meets (Text a) (Text b) = bytes_eq a b
meets _ _ = false

-- A symbol that doesn't go on with a product or a sum belongs to what is awaited after it.
abbrev pub step : Item → Symbol → Outcome
step (Scripts known) (Word w) = cond (bytes_eq w (codes "role")) (On (script_of known)) (Wrong faults.Token)
step (Lines s k) (Is signs.Close) = On (k s.lines)
step (Lines s k) t = line s t (λ x. Lines (with_line s x) k)
step (ALine s k) t = line s t k
step (This symbol k) t = cond (meets t symbol) (On k) (Wrong faults.Token)
step (AWord fault k) (Word w) = unless (fault w) (On (k w))
step (ASigned k) (Is signs.Minus) = On (ANumber (λ n. k (neg_ℤ (pos n))))
step (ASigned k) (Number n) = On (k (pos n))
step (ANumber k) (Number n) = On (k n)
step (AnEnd plain when) (Is signs.Semicolon) = On plain
step (AnEnd plain when) (Word w) = cond (bytes_eq w (codes "when")) (On when) (Wrong faults.Token)
step (ATest k) (Is signs.Less) = On (k Less)
step (ATest k) (Is signs.AtMost) = On (k AtMost)
step (ATest k) (Is signs.Same) = On (k Same)
step (ATest k) (Is signs.Differ) = On (k Differ)
step (ATest k) (Is signs.More) = On (k More)
step (ATest k) (Is signs.AtLeast) = On (k AtLeast)
step (AnAtom p k) (Number n) = On (k (Literal n))
step (AnAtom p k) (Word w) = word_atom p w k
step (AnAtom p k) (Is signs.Minus) =
    unless (fault_if (nat_le 32 p.depth) faults.TooMany) (On (AnAtom (deeper p) (λ e. k (Negated e))))
step (AnAtom p k) (Is signs.Left) =
    unless (fault_if (nat_le 32 p.depth) faults.TooMany) (On (a_sum (deeper p) (λ e. This (Is signs.Right) (k e))))
step (Factors p left k) (Is signs.Times) = On (AnAtom p (λ e. Factors p (Times left e) k))
step (Factors p left k) t = step (k left) t
step (Terms p left k) (Is signs.Plus) = On (a_product p (λ e. Terms p (Plus left e) k))
step (Terms p left k) (Is signs.Minus) = On (a_product p (λ e. Terms p (Minus left e) k))
step (Terms p left k) t = step (k left) t
step _ _ = Wrong faults.Token

-- The answer: the lines of each role, or the fault and what is left from its symbol on.
pub data Answer : Type 0 where
  Taken : (scripts : List (List Line)) → Answer
  Refuses : (fault : Fault) (left : List Symbol) → Answer

-- the end may come between scripts alone
abbrev pub at_end : Item → Answer
at_end (Scripts known) = Taken known.scripts
at_end (Factors p left k) = at_end (k left)
at_end (Terms p left k) = at_end (k left)
at_end _ = Refuses faults.Token []

-- what follows an outcome
abbrev pub after : Outcome → List Symbol → (Item → Answer) → Answer
after (On item) left go = go item
after (Wrong fault) left go = Refuses fault left

-- the answer from what is awaited on
abbrev pub answer : Item → List Symbol → Answer
answer item [] = at_end item
answer item (t ∷ ts) = after (step item t) (t ∷ ts) (λ next. answer next ts)

-- what is awaited at first
abbrev pub awaited : List (List ℕ) → List PointView → Item
awaited roles messages = Scripts (record { roles = roles; messages = messages; scripts = no_lines roles; given = [] })

-- the answer to all symbols
abbrev pub reading : List (List ℕ) → List PointView → List Symbol → Answer
reading roles messages symbols = answer (awaited roles messages) symbols
