-- The grammar: what is written, and how it is spelled, one clause for each production.
use Rattle.std.specs.Prelude.{◌≡◌, ℕ, Bool, true, ◌||◌, codes, List, [], ◌∷◌, ◌++◌}
use Rattle.std.specs.Str.{bytes_eq}
use Rattle.rcv_tree.specs.declared.protocol.Decl.{Decl}
use Rattle.rcv_syntax.specs.declared.sign.Sign.{Sign}
use Rattle.rcv_syntax.specs.declared.sign.Sign.TheVariants.{Module, Global, Protocol, Role, From, To, Choice, At, Or, Rec, Continue, Par, And, Do, Open, Close, Left, Right, Comma, Semicolon, Dot, Less, Greater}
use Rattle.rcv_syntax.specs.Symbols.{Symbol, Is, Word, Text}

-- Statements with what stands after each in its block, and the other blocks of a choice or a par. Names are as written.
mutual
  pub data Written : Type 0 where
    NoStmt : Written
    AMessage : (label : List ℕ) (sorts : List (List ℕ)) (sender receiver : List ℕ) (others : List (List ℕ)) (rest : Written) → Written
    AChoice : (subject : List ℕ) (first : Written) (others : Blocks) (rest : Written) → Written
    ARec : (name : List ℕ) (body rest : Written) → Written
    AContinue : (name : List ℕ) (rest : Written) → Written
    APar : (first second : Written) (others : Blocks) (rest : Written) → Written
    ADo : (name role : List ℕ) (others : List (List ℕ)) (rest : Written) → Written

  pub data Blocks : Type 0 where
    NoBlock : Blocks
    ABlock : (first : Written) (others : Blocks) → Blocks

-- Each in front of what follows: . Name . Name ..
abbrev pub dotted : List (List ℕ) → List Symbol → List Symbol
dotted [] next = next
dotted (n ∷ ns) next = Is Dot ∷ Word n ∷ dotted ns next

-- , Name , Name ..
abbrev pub names_behind : List (List ℕ) → List Symbol → List Symbol
names_behind [] next = next
names_behind (n ∷ ns) next = Is Comma ∷ Word n ∷ names_behind ns next

-- Name , Name .. or nothing
abbrev pub sort_list : List (List ℕ) → List Symbol → List Symbol
sort_list [] next = next
sort_list (n ∷ ns) next = Word n ∷ names_behind ns next

-- , role Name , role Name ..
abbrev pub roles_behind : List (List ℕ) → List Symbol → List Symbol
roles_behind [] next = next
roles_behind (n ∷ ns) next = Is Comma ∷ Is Role ∷ Word n ∷ roles_behind ns next

-- type or data < Schema > "extern" from "file" as Alias ;
abbrev pub decl : Decl → List Symbol → List Symbol
decl d next =
    Word d.word ∷ Is Less ∷ Word d.schema ∷ Is Greater ∷ Text d.extern_name ∷ Is From ∷ Text d.file ∷ Word (codes "as") ∷ Word d.alias
    ∷ Is Semicolon ∷ next

abbrev pub decls : List Decl → List Symbol → List Symbol
decls [] next = next
decls (d ∷ ds) next = decl d (decls ds next)

-- Statements; and the other blocks, each after its word: `or` for a choice, `and` for a par.
abbrev mutual
  pub stmts : Written → List Symbol → List Symbol
  stmts NoStmt next = next
  stmts (AMessage label sorts sender receiver others rest) next =
      Word label ∷ Is Left ∷ sort_list sorts
      (Is Right ∷ Is From ∷ Word sender ∷ Is To ∷ Word receiver ∷ names_behind others (Is Semicolon ∷ stmts rest next))
  stmts (AChoice subject first others rest) next =
      Is Choice ∷ Is At ∷ Word subject ∷ Is Open ∷ stmts first (Is Close ∷ blocks_behind Or others (stmts rest next))
  stmts (ARec name body rest) next = Is Rec ∷ Word name ∷ Is Open ∷ stmts body (Is Close ∷ stmts rest next)
  stmts (AContinue name rest) next = Is Continue ∷ Word name ∷ Is Semicolon ∷ stmts rest next
  stmts (APar first second others rest) next =
      Is Par ∷ Is Open ∷ stmts first (Is Close ∷ Is And ∷ Is Open ∷ stmts second (Is Close ∷ blocks_behind And others (stmts rest next)))
  stmts (ADo name role others rest) next =
      Is Do ∷ Word name ∷ Is Left ∷ Word role ∷ names_behind others (Is Right ∷ Is Semicolon ∷ stmts rest next)

  pub blocks_behind : Sign → Blocks → List Symbol → List Symbol
  blocks_behind word NoBlock next = next
  blocks_behind word (ABlock first others) next = Is word ∷ Is Open ∷ stmts first (Is Close ∷ blocks_behind word others next)

-- at least one statement
abbrev pub IsBegun : Written → Type 0
IsBegun NoStmt = ⊥
IsBegun _ = Unit {0}

-- each inner block has a statement
abbrev mutual
  pub IsProper : Written → Type 0
  IsProper NoStmt = Unit {0}
  IsProper (AMessage label sorts sender receiver others rest) = IsProper rest
  IsProper (AChoice subject first others rest) = IsBegun first × IsProper first × AreProper others × IsProper rest
  IsProper (ARec name body rest) = IsBegun body × IsProper body × IsProper rest
  IsProper (AContinue name rest) = IsProper rest
  IsProper (APar first second others rest) =
      IsBegun first × IsProper first × IsBegun second × IsProper second × AreProper others × IsProper rest
  IsProper (ADo name role others rest) = IsProper rest

  pub AreProper : Blocks → Type 0
  AreProper NoBlock = Unit {0}
  AreProper (ABlock first others) = IsBegun first × IsProper first × AreProper others

-- the words of a declaration, which are no reserved ones
abbrev pub is_decl_word : List ℕ → Bool
is_decl_word w = bytes_eq w (codes "type") || bytes_eq w (codes "data")

abbrev pub AreDecls : List Decl → Type 0
AreDecls [] = Unit {0}
AreDecls (d ∷ ds) = (is_decl_word d.word ≡ true) × AreDecls ds

-- A protocol as it is written, and a module: its declarations and at least one protocol.
pub record WrittenProtocol : Type 0 where
  pub name : List ℕ
  pub role : List ℕ
  pub other_roles : List (List ℕ)
  pub body : Written

pub record Source : Type 0 where
  pub module_name : List ℕ
  pub module_more : List (List ℕ)
  pub declared : List Decl
  pub first : WrittenProtocol
  pub others : List WrittenProtocol

-- Name ( role Name , role Name .. ) { stmt .. }
abbrev pub declared : WrittenProtocol → List Symbol → List Symbol
declared p next =
    Word p.name ∷ Is Left ∷ Is Role ∷ Word p.role
    ∷ roles_behind p.other_roles (Is Right ∷ Is Open ∷ stmts p.body (Is Close ∷ next))

-- global protocol Name ( role Name , role Name .. ) { stmt .. }
abbrev pub protocol : WrittenProtocol → List Symbol → List Symbol
protocol p next = Is Global ∷ Is Protocol ∷ declared p next

abbrev pub protocols : List WrittenProtocol → List Symbol → List Symbol
protocols [] next = next
protocols (p ∷ ps) next = protocol p (protocols ps next)

-- each inner block of each protocol has a statement
abbrev pub AreProperBodies : List WrittenProtocol → Type 0
AreProperBodies [] = Unit {0}
AreProperBodies (p ∷ ps) = IsProper p.body × AreProperBodies ps

-- a module in front of what follows, and alone
abbrev pub modules : Source → List Symbol → List Symbol
modules s next =
    Is Module ∷ Word s.module_name
    ∷ dotted s.module_more (Is Semicolon ∷ decls s.declared (protocols (s.first ∷ s.others) next))

abbrev pub spelling : Source → List Symbol
spelling s = modules s []

-- the symbols spell this module
abbrev pub Spells : List Symbol → Source → Type 0
Spells symbols s = AreDecls s.declared × AreProperBodies (s.first ∷ s.others) × (symbols ≡ spelling s)

-- the grammar derives the symbols
abbrev pub IsDerived : List Symbol → Type 0
IsDerived symbols = (s : Source) × Spells symbols s

-- the symbols are the beginning of a list that the grammar derives
abbrev pub IsBeginning : List Symbol → Type 0
IsBeginning symbols = (more : List Symbol) × IsDerived (symbols ++ more)
