-- Protocols whose names are names of the grammar, so that what is printed can be read.
use Rattle.std.specs.Prelude.{◌≡◌, ℕ, true, List, [], ◌∷◌, None}
use Rattle.rcv_tree.specs.Lists.{declarations}
use Rattle.rcv_tree.specs.declared.protocol.Decl.{Decl}
use Rattle.rcv_tree.specs.declared.protocol.Protocol.{Protocol}
use Rattle.rcv_tree.specs.Names.{name_at}
use Rattle.rcv_model.specs.Text.{Body, End, Single, Choose, Loop, Again, Parallel, Call, Bodies, NoMore, Or, body_of}
use Rattle.rcv_tree.specs.Words.{IsWord}
use Rattle.rcv_lexer.specs.Tokens.{IsQuotable}
use Rattle.rcv_syntax.specs.Symbols.{reserved}
use Rattle.rcv_syntax.specs.Grammar.{is_decl_word}
use Rattle.rcv_grammar.specs.Canonical.{names_at}

-- a word that isn't reserved
abbrev pub IsName : List ℕ → Type 0
IsName n = IsWord n × (reserved n ≡ None)

-- each is a name
abbrev pub AreNames : List (List ℕ) → Type 0
AreNames [] = Unit {0}
AreNames (n ∷ ns) = IsName n × AreNames ns

-- at least one name
abbrev pub SomeNames : List (List ℕ) → Type 0
SomeNames [] = ⊥
SomeNames (n ∷ ns) = IsName n × AreNames ns

-- The words of a declaration are as the grammar wants them.
pub record IsPrintableDecl (d : Decl) : Type 0 where
  pub word : is_decl_word d.word ≡ true
  pub schema : IsName d.schema
  pub extern_name : IsQuotable d.extern_name
  pub file : IsQuotable d.file
  pub alias : IsName d.alias

-- each can be printed
abbrev pub ArePrintableDecls : List Decl → Type 0
ArePrintableDecls [] = Unit {0}
ArePrintableDecls (d ∷ ds) = IsPrintableDecl d × ArePrintableDecls ds

-- Each name of a body is one, a choice has a branch, a par has two blocks, and a do has a role; blocks that can be
-- printed: any number of them, at least one, at least two.
abbrev mutual
  pub IsPrintableBody : List (List ℕ) → Body → Type 0
  IsPrintableBody roles End = Unit {0}
  IsPrintableBody roles (Single label sorts sender receiver point rest) =
      IsName label × AreNames sorts × IsName (name_at roles sender) × IsName (name_at roles receiver)
      × IsPrintableBody roles rest
  IsPrintableBody roles (Choose subject branches rest) =
      IsName (name_at roles subject) × SomeBlocks roles branches × IsPrintableBody roles rest
  IsPrintableBody roles (Loop name body rest) = IsName name × IsPrintableBody roles body × IsPrintableBody roles rest
  IsPrintableBody roles (Again name rest) = IsName name × IsPrintableBody roles rest
  IsPrintableBody roles (Parallel blocks rest) = TwoBlocks roles blocks × IsPrintableBody roles rest
  IsPrintableBody roles (Call name places rest) =
      IsName name × SomeNames (names_at roles places) × IsPrintableBody roles rest

  pub ArePrintableBlocks : List (List ℕ) → Bodies → Type 0
  ArePrintableBlocks roles NoMore = Unit {0}
  ArePrintableBlocks roles (Or body others) = IsPrintableBody roles body × ArePrintableBlocks roles others

  pub SomeBlocks : List (List ℕ) → Bodies → Type 0
  SomeBlocks roles NoMore = ⊥
  SomeBlocks roles (Or body others) = IsPrintableBody roles body × ArePrintableBlocks roles others

  pub TwoBlocks : List (List ℕ) → Bodies → Type 0
  TwoBlocks roles NoMore = ⊥
  TwoBlocks roles (Or body others) = IsPrintableBody roles body × SomeBlocks roles others

-- Each name of the protocol is one; it has a name for its module and a role.
pub record IsPrintable (p : Protocol) : Type 0 where
  pub modules : SomeNames p.«module»
  pub declared : ArePrintableDecls (declarations p.decls)
  pub named : IsName p.name
  pub role_names : SomeNames p.roles
  pub body : IsPrintableBody p.roles (body_of p.body)
