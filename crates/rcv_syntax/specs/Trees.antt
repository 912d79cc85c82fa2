-- The tree of what is written: names of roles become places, each receiver a message of its own, points are counted.
use Rattle.std.specs.Prelude.{◌≡◌, ℕ, ◌+◌, ◌==◌, Bool, true, false, if◌then◌else◌, List, [], ◌∷◌, ◌++◌, length, map, Option, Some, None}
use Rattle.std.specs.List.{list_any}
use Rattle.rcv_tree.specs.Lists.{declarations}
use Rattle.rcv_tree.specs.Names.{place_of}
use Rattle.rcv_lexer.specs.declared.token.Token.{Token}
use Rattle.rcv_lexer.specs.Symbols.{symbol_of}
use Rattle.rcv_syntax.specs.declared.sign.Sign.TheVariants.{Do}
use Rattle.rcv_tree.specs.declared.protocol.Protocol.{Protocol}
use Rattle.rcv_model.specs.Text as trees
use Rattle.rcv_syntax.specs.Symbols.{Symbol, Is, symbol_by}
use Rattle.rcv_syntax.specs.Grammar.{Written, NoStmt, AMessage, AChoice, ARec, AContinue, APar, ADo, Blocks, NoBlock, ABlock, WrittenProtocol, Source, Spells}

abbrev pub is_listed : ℕ → List ℕ → Bool
is_listed n ns = list_any (λ other. n == other) ns

abbrev pub or_first : Option ℕ → ℕ
or_first None = 0
or_first (Some r) = r

-- the place of a declared role
abbrev pub role_at : List (List ℕ) → List ℕ → ℕ
role_at roles name = or_first (place_of roles name)

abbrev pub roles_at : List (List ℕ) → List (List ℕ) → List ℕ
roles_at roles names = map (role_at roles) names

-- how many points are written
abbrev mutual
  pub points : Written → ℕ
  points NoStmt = 0
  points (AMessage label sorts sender receiver others rest) = 1 + length others + points rest
  points (AChoice subject first others rest) = points first + points_of others + points rest
  points (ARec name body rest) = points body + points rest
  points (AContinue name rest) = points rest
  points (APar first second others rest) = points first + (points second + points_of others) + points rest
  points (ADo name role others rest) = points rest

  pub points_of : Blocks → ℕ
  points_of NoBlock = 0
  points_of (ABlock first others) = points first + points_of others

-- one message for each receiver, after n points
abbrev pub singles : List ℕ → List (List ℕ) → ℕ → List ℕ → ℕ → trees.Body → trees.Body
singles label sorts sender [] n rest = rest
singles label sorts sender (r ∷ rs) n rest = trees.Single label sorts sender r (n + 1) (singles label sorts sender rs (n + 1) rest)

-- the tree, after n points
abbrev mutual
  pub tree_of : List (List ℕ) → ℕ → Written → trees.Body
  tree_of roles n NoStmt = trees.End
  tree_of roles n (AMessage label sorts sender receiver others rest) =
      singles label sorts (role_at roles sender) (roles_at roles (receiver ∷ others)) n (tree_of roles (n + (1 + length others)) rest)
  tree_of roles n (AChoice subject first others rest) =
      trees.Choose (role_at roles subject) (trees.Or (tree_of roles n first) (trees_of roles (n + points first) others))
      (tree_of roles (n + (points first + points_of others)) rest)
  tree_of roles n (ARec name body rest) = trees.Loop name (tree_of roles n body) (tree_of roles (n + points body) rest)
  tree_of roles n (AContinue name rest) = trees.Again name (tree_of roles n rest)
  tree_of roles n (APar first second others rest) =
      trees.Parallel (trees.Or (tree_of roles n first)
      (trees.Or (tree_of roles (n + points first) second) (trees_of roles (n + points first + points second) others)))
      (tree_of roles (n + (points first + (points second + points_of others))) rest)
  tree_of roles n (ADo name role others rest) = trees.Call name (roles_at roles (role ∷ others)) (tree_of roles n rest)

  pub trees_of : List (List ℕ) → ℕ → Blocks → trees.Bodies
  trees_of roles n NoBlock = trees.NoMore
  trees_of roles n (ABlock first others) = trees.Or (tree_of roles n first) (trees_of roles (n + points first) others)

-- a declared role
abbrev pub IsDeclared : List (List ℕ) → List ℕ → Type 0
IsDeclared roles name = (r : ℕ) × (place_of roles name ≡ Some r)

-- Each receiver is declared, isn't the sender and doesn't stand before.
abbrev pub MayReceive : List (List ℕ) → ℕ → List ℕ → List (List ℕ) → Type 0
MayReceive roles sender before [] = Unit {0}
MayReceive roles sender before (r ∷ rs) =
    IsDeclared roles r × (is_listed (role_at roles r) before ≡ false) × ((role_at roles r == sender) ≡ false)
    × MayReceive roles sender (before ++ role_at roles r ∷ []) rs

-- Each argument is declared and doesn't stand before.
abbrev pub MayCall : List (List ℕ) → List ℕ → List (List ℕ) → Type 0
MayCall roles before [] = Unit {0}
MayCall roles before (r ∷ rs) =
    IsDeclared roles r × (is_listed (role_at roles r) before ≡ false) × MayCall roles (before ++ role_at roles r ∷ []) rs

-- The roles that are written are declared, and each message goes to other roles than its sender.
abbrev mutual
  pub IsFit : List (List ℕ) → Written → Type 0
  IsFit roles NoStmt = Unit {0}
  IsFit roles (AMessage label sorts sender receiver others rest) =
      IsDeclared roles sender × MayReceive roles (role_at roles sender) [] (receiver ∷ others) × IsFit roles rest
  IsFit roles (AChoice subject first others rest) = IsDeclared roles subject × IsFit roles first × AreFit roles others × IsFit roles rest
  IsFit roles (ARec name body rest) = IsFit roles body × IsFit roles rest
  IsFit roles (AContinue name rest) = IsFit roles rest
  IsFit roles (APar first second others rest) = IsFit roles first × IsFit roles second × AreFit roles others × IsFit roles rest
  IsFit roles (ADo name role others rest) = MayCall roles [] (role ∷ others) × IsFit roles rest

  pub AreFit : List (List ℕ) → Blocks → Type 0
  AreFit roles NoBlock = Unit {0}
  AreFit roles (ABlock first others) = IsFit roles first × AreFit roles others

-- This protocol is the tree of what is written.
pub record IsTreeOf (w : WrittenProtocol) (p : Protocol) : Type 0 where
  pub named : p.name ≡ w.name
  pub role_names : p.roles ≡ w.role ∷ w.other_roles
  pub fit : IsFit p.roles w.body
  pub tree : trees.body_of p.body ≡ tree_of p.roles 0 w.body

-- These protocols are the trees of these, one of each. The module's names and its declarations stand in the first one.
abbrev pub AreTreesOf : List WrittenProtocol → List Protocol → Type 0
AreTreesOf [] [] = Unit {0}
AreTreesOf (w ∷ ws) (p ∷ ps) = IsTreeOf w p × (p.«module» ≡ []) × (declarations p.decls ≡ []) × AreTreesOf ws ps
AreTreesOf _ _ = ⊥

-- The symbols spell a module, and these are its protocols.
pub record Reads (symbols : List Symbol) (main : Protocol) (others : List Protocol) : Type 0 where
  pub source : Source
  pub spelled : Spells symbols source
  pub modules : main.«module» ≡ source.module_name ∷ source.module_more
  pub declared : declarations main.decls ≡ source.declared
  pub first : IsTreeOf source.first main
  pub more : AreTreesOf source.others others

-- the word `do`
abbrev pub is_call : Symbol → Bool
is_call (Is Do) = true
is_call _ = false

-- The lines of the words `do`, in text order.
abbrev pub lines_of_calls : List ℕ → List Token → List ℕ
lines_of_calls bundle [] = []
lines_of_calls bundle (t ∷ ts) = if is_call (symbol_of symbol_by bundle t) then t.line ∷ lines_of_calls bundle ts else lines_of_calls bundle ts
