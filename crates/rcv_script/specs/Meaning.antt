-- What written scripts say. The names are those of the variables that are declared before.
use Rattle.std.specs.Prelude.{ℕ, if◌then◌else◌, Bool, true, false, codes, List, [], ◌∷◌, ◌++◌, map, Some, None}
use Rattle.std.specs.Prelude.{slice_set, ℤ, pos, neg_ℤ, bytes_eq}
use Rattle.rcv_model.specs.Script.{Expr, Literal, TheValue, TheAttempt, Variable, Negated, Plus, Minus, Times, Line}
use Rattle.rcv_model.specs.Script.{VarLine, SendLine, PickLine, OnLine}
use Rattle.rcv_script.specs.Grammar.{WrittenAtom, Digits, Named, Signed, Inside, MoreAtoms, NoAtom, TimesAtom}
use Rattle.rcv_script.specs.Grammar.{MoreProducts, NoProduct, PlusProduct, MinusProduct, WrittenSum, SumOf}
use Rattle.rcv_script.specs.Grammar.{WrittenLine, VarText, SendText, PickText, WhenText, OnText, WrittenScript}
use Rattle.rcv_script.specs.Labels.{place_in}

-- ---- expressions

-- the words value and attempt, or a variable
abbrev pub word_says : List (List ℕ) → List ℕ → Expr
word_says names w =
    if bytes_eq w (codes "value") then TheValue
    else (if bytes_eq w (codes "attempt") then TheAttempt
    else Variable (place_in names w))

abbrev mutual
  -- an atom
  pub atom_says : List (List ℕ) → WrittenAtom → Expr
  atom_says names (Digits n) = Literal n
  atom_says names (Named w) = word_says names w
  atom_says names (Signed a) = Negated (atom_says names a)
  atom_says names (Inside s) = sum_says names s

  -- what was read of a product, multiplied with more atoms from the left
  pub product_says : List (List ℕ) → Expr → MoreAtoms → Expr
  product_says names left NoAtom = left
  product_says names left (TimesAtom a more) = product_says names (Times left (atom_says names a)) more

  -- what was read of a sum, with more products added and subtracted from the left
  pub terms_say : List (List ℕ) → Expr → MoreProducts → Expr
  terms_say names left NoProduct = left
  terms_say names left (PlusProduct a atoms more) = terms_say names (Plus left (product_says names (atom_says names a) atoms)) more
  terms_say names left (MinusProduct a atoms more) = terms_say names (Minus left (product_says names (atom_says names a) atoms)) more

  -- a sum
  pub sum_says : List (List ℕ) → WrittenSum → Expr
  sum_says names (SumOf a atoms more) = terms_say names (product_says names (atom_says names a) atoms) more

-- ---- lines and scripts

-- the number that is written
abbrev pub signed_number : Bool → ℕ → ℤ
signed_number false n = pos n
signed_number true n = neg_ℤ (pos n)

-- a line
abbrev pub line_says : List (List ℕ) → WrittenLine → Line
line_says names (VarText name below n) = VarLine (signed_number below n)
line_says names (SendText label s) = SendLine label (sum_says names s)
line_says names (PickText label) = PickLine label None
line_says names (WhenText label left test right) =
    PickLine label (Some (record { left = sum_says names left; test = test; right = sum_says names right }))
line_says names (OnText label name s) = OnLine label (place_in names name) (sum_says names s)

-- the variables that are declared after a line
abbrev pub names_behind : List (List ℕ) → WrittenLine → List (List ℕ)
names_behind names (VarText name below n) = names ++ name ∷ []
names_behind names _ = names

-- lines, one after another
abbrev pub lines_say : List (List ℕ) → List WrittenLine → List Line
lines_say names [] = []
lines_say names (w ∷ ws) = line_says names w ∷ lines_say (names_behind names w) ws

-- no lines of any role
abbrev pub no_lines : List (List ℕ) → List (List Line)
no_lines roles = map (λ name. []) roles

-- The lines of each role: these, and those of the scripts that are written.
abbrev pub scripts_say : List (List ℕ) → List (List Line) → List WrittenScript → List (List Line)
scripts_say roles lines [] = lines
scripts_say roles lines (w ∷ ws) = scripts_say roles (slice_set lines (place_in roles w.role) (lines_say [] w.lines)) ws
