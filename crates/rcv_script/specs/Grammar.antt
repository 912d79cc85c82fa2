-- Scripts as they are written, each in front of what follows. Nothing here says what a name stands for.
use Rattle.std.specs.Prelude.{◌≡◌, ℕ, Bool, true, false, codes, List, [], ◌∷◌, ◌++◌}
use Rattle.rcv_model.specs.Script.{Test, Less, AtMost, Same, Differ, More, AtLeast}
use Rattle.rcv_script.specs.declared.sign.Sign.{Sign}
use Rattle.rcv_script.specs.declared.sign.Sign.TheVariants as signs
use Rattle.rcv_script.specs.Symbols.{Symbol, Is, Word, Number}

mutual
  -- A number, a word, a sign in front of an atom, or a sum in parentheses.
  pub data WrittenAtom : Type 0 where
    Digits : (number : ℕ) → WrittenAtom
    Named : (word : List ℕ) → WrittenAtom
    Signed : (a : WrittenAtom) → WrittenAtom
    Inside : (s : WrittenSum) → WrittenAtom

  -- ("*" atom)*
  pub data MoreAtoms : Type 0 where
    NoAtom : MoreAtoms
    TimesAtom : (a : WrittenAtom) (more : MoreAtoms) → MoreAtoms

  -- (("+" | "-") atom ("*" atom)*)*
  pub data MoreProducts : Type 0 where
    NoProduct : MoreProducts
    PlusProduct : (a : WrittenAtom) (atoms : MoreAtoms) (more : MoreProducts) → MoreProducts
    MinusProduct : (a : WrittenAtom) (atoms : MoreAtoms) (more : MoreProducts) → MoreProducts

  -- atom ("*" atom)* (("+" | "-") atom ("*" atom)*)*
  pub data WrittenSum : Type 0 where
    SumOf : (a : WrittenAtom) (atoms : MoreAtoms) (more : MoreProducts) → WrittenSum

-- A line, with the words of its labels and variables.
pub data WrittenLine : Type 0 where
  VarText : (name : List ℕ) (below : Bool) (number : ℕ) → WrittenLine
  SendText : (label : List ℕ) (s : WrittenSum) → WrittenLine
  PickText : (label : List ℕ) → WrittenLine
  WhenText : (label : List ℕ) (left : WrittenSum) (test : Test) (right : WrittenSum) → WrittenLine
  OnText : (label name : List ℕ) (s : WrittenSum) → WrittenLine

-- A role's name and its lines.
pub record WrittenScript : Type 0 where
  pub role : List ℕ
  pub lines : List WrittenLine

-- ---- the spelling

abbrev mutual
  -- an atom
  pub atom_text : WrittenAtom → List Symbol → List Symbol
  atom_text (Digits n) next = Number n ∷ next
  atom_text (Named w) next = Word w ∷ next
  atom_text (Signed a) next = Is signs.Minus ∷ atom_text a next
  atom_text (Inside s) next = Is signs.Left ∷ sum_text s (Is signs.Right ∷ next)

  -- more atoms of a product
  pub atoms_text : MoreAtoms → List Symbol → List Symbol
  atoms_text NoAtom next = next
  atoms_text (TimesAtom a more) next = Is signs.Times ∷ atom_text a (atoms_text more next)

  -- more products of a sum
  pub products_text : MoreProducts → List Symbol → List Symbol
  products_text NoProduct next = next
  products_text (PlusProduct a atoms more) next = Is signs.Plus ∷ atom_text a (atoms_text atoms (products_text more next))
  products_text (MinusProduct a atoms more) next = Is signs.Minus ∷ atom_text a (atoms_text atoms (products_text more next))

  -- a sum
  pub sum_text : WrittenSum → List Symbol → List Symbol
  sum_text (SumOf a atoms more) next = atom_text a (atoms_text atoms (products_text more next))

-- the mark that compares
abbrev pub test_mark : Test → Sign
test_mark Less = signs.Less
test_mark AtMost = signs.AtMost
test_mark Same = signs.Same
test_mark Differ = signs.Differ
test_mark More = signs.More
test_mark AtLeast = signs.AtLeast

-- a number with or without a sign
abbrev pub number_text : Bool → ℕ → List Symbol → List Symbol
number_text false n next = Number n ∷ next
number_text true n next = Is signs.Minus ∷ Number n ∷ next

-- a line
abbrev pub line_text : WrittenLine → List Symbol → List Symbol
line_text (VarText name below n) next =
    Word (codes "var") ∷ Word name ∷ Is signs.Equals ∷ number_text below n (Is signs.Semicolon ∷ next)
line_text (SendText label s) next = Word (codes "send") ∷ Word label ∷ Is signs.Equals ∷ sum_text s (Is signs.Semicolon ∷ next)
line_text (PickText label) next = Word (codes "pick") ∷ Word label ∷ Is signs.Semicolon ∷ next
line_text (WhenText label left test right) next =
    Word (codes "pick") ∷ Word label ∷ Word (codes "when")
    ∷ sum_text left (Is (test_mark test) ∷ sum_text right (Is signs.Semicolon ∷ next))
line_text (OnText label name s) next =
    Word (codes "on") ∷ Word label ∷ Word (codes "set") ∷ Word name ∷ Is signs.Equals ∷ sum_text s (Is signs.Semicolon ∷ next)

-- lines, and the brace after them
abbrev pub lines_text : List WrittenLine → List Symbol → List Symbol
lines_text [] next = Is signs.Close ∷ next
lines_text (w ∷ ws) next = line_text w (lines_text ws next)

-- scripts, one after another
abbrev pub scripts_text : List WrittenScript → List Symbol
scripts_text [] = []
scripts_text (w ∷ ws) = Word (codes "role") ∷ Word w.role ∷ Is signs.Open ∷ lines_text w.lines (scripts_text ws)

-- The grammar derives the list.
abbrev pub IsDerived : List Symbol → Type 0
IsDerived symbols = (ws : List WrittenScript) × (symbols ≡ scripts_text ws)

-- The symbols begin a list that the grammar derives.
abbrev pub IsBeginning : List Symbol → Type 0
IsBeginning symbols = (more : List Symbol) × IsDerived (symbols ++ more)
