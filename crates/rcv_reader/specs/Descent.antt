-- What the functions of the descent say: how the machine goes on, and how what was read is spelled.
use Rattle.std.specs.Prelude.{◌≡◌, ◌≢◌, ℕ, ◌+◌, ◌==◌, Bool, true, false, List, [], ◌∷◌, ◌++◌, length, ◌<◌, ◌≤◌, Result, Ok, Err, OnOk, Some}
use Rattle.std.specs.Borrow.{Bor}
use Rattle.std.specs.BTreeSet.{BTreeSet, contains_by}
use Rattle.std.specs.Cmp.Lexicographic.{slice_cmp}
use Rattle.std.specs.Ordering.{nat_cmp}
use Rattle.rcv_tree.specs.declared.statement.Stmt.{Stmt}
use Rattle.rcv_tree.specs.declared.statement.Stmt.TheVariants as statements
use Rattle.rcv_tree.specs.declared.statement.Block.{Block}
use Rattle.rcv_machine.specs.Words.{Decl, Sign, Module, Global, Protocol, Role, Left, Right, Open, Close, Semicolon, Symbol, Is, Word, Written, stmts, names_behind, roles_behind, dotted, decls, AreDecls, blocks_behind, IsBegun, IsProper, AreProper, is_among}
use Rattle.rcv_machine.specs.Words.{place_of, is_listed, roles_at, points, points_of, tree_of, trees_of, MayReceive, MayCall, IsFit, AreFit, WrittenProtocol, IsTreeOf, declared, IsFirst, Item, This, AnyName, Refuses, Named, Place}
use Rattle.rcv_model.specs.Text as trees
use Rattle.rcv_syntax.specs.Grammar as grammar
use Rattle.rcv_model.specs.Form.{HasForm}
use Rattle.rcv_tree.specs.declared.protocol.Protocol.{Protocol as ProtocolTree}
pub use Rattle.rcv_reader.specs.declared.parser.Spot.{Spot}
pub use Rattle.rcv_reader.specs.declared.stop.Stop.{Stop}
use Rattle.rcv_reader.specs.declared.stop.Stop.TheVariants as errors
pub use Rattle.rcv_reader.specs.Standing.{Standing, IsSmall, at, back_at, with_roles, with_protocols, within, afresh, has_place, named_in, answers, going_on, IsOver}

abbrev pub place_at : List (List ℕ) → ℕ → ℕ → Bool → Named → Place
place_at recs depth comes ended earlier = record { depth = depth; recs = recs; comes = comes; ended = ended; earlier = earlier }

-- where the parser stands in its block
abbrev pub place_of_spot : Standing → Spot → Place
place_of_spot p spot = place_at p.recs spot.depth spot.comes spot.ended (named_in p.roles spot.earlier.0)

-- The machine goes from what is awaited in front to what is awaited behind, or stops; k is awaited after that.
abbrev pub Halts : Stop → Standing → Standing → (List Item → List Item) → Type 0
Halts errors.Memory old new front = Unit {0}
Halts (errors.Refused fault) old new front = (k : List Item) → answers old (front k) ≡ Refuses fault new.rest

abbrev pub Takes : {X : Type 0} → Result X Stop → Standing → Standing → (List Item → List Item) → (X → List Item → List Item) → Type 0
Takes (Ok x) old new front behind = (k : List Item) → answers old (front k) ≡ answers new (behind x k)
Takes (Err e) old new front behind = Halts e old new front

-- The same, with at least one symbol read.
abbrev pub Consumes : {X : Type 0} → Result X Stop → Standing → Standing → (List Item → List Item) → (X → List Item → List Item) → Type 0
Consumes result old new front behind = Takes result old new front behind × OnOk result (length new.rest < length old.rest)

-- the messages of one statement, after n points
abbrev pub messages : List ℕ → List (List ℕ) → ℕ → List ℕ → ℕ → List Stmt
messages label sorts sender [] n = []
messages label sorts sender (r ∷ rs) n = statements.Message label sorts sender r (n + 1) ∷ messages label sorts sender rs (n + 1)

-- these statements in front of a body; these blocks in front of branches
abbrev pub in_front : List Stmt → trees.Body → trees.Body
in_front [] rest = rest
in_front (s ∷ ss) rest = trees.stmt_body s (in_front ss rest)

abbrev pub branches_in_front : List Block → trees.Bodies → trees.Bodies
branches_in_front [] others = others
branches_in_front (b ∷ bs) others = trees.Or (trees.body_of b) (branches_in_front bs others)

-- One receiver was read: its name and its role. It makes a point.
pub record IsReceived (old new : Standing) (sender : ℕ) (before : List ℕ) (role : ℕ) : Type 0 where
  pub name : List ℕ
  pub is_role : place_of new.roles name ≡ Some role
  pub first : is_listed role before ≡ false
  pub apart : (role == sender) ≡ false
  pub counted : new.count ≡ old.count + 1
  pub spelled : old ≡ back_at new old.count old.since (Word name ∷ new.rest)

-- Receivers of a message were read.
pub record AreReceived (old new : Standing) (sender : ℕ) (receivers : List ℕ) : Type 0 where
  pub first : List ℕ
  pub others : List (List ℕ)
  pub may : MayReceive new.roles sender [] (first ∷ others)
  pub places : receivers ≡ roles_at new.roles (first ∷ others)
  pub counted : new.count ≡ old.count + length receivers
  pub spelled : old ≡ back_at new old.count old.since (Word first ∷ names_behind others new.rest)

-- One argument was read: its name and its role.
pub record IsGiven (old new : Standing) (before : List ℕ) (role : ℕ) : Type 0 where
  pub name : List ℕ
  pub is_role : place_of new.roles name ≡ Some role
  pub first : is_listed role before ≡ false
  pub spelled : old ≡ back_at new new.count old.since (Word name ∷ new.rest)

-- Arguments of a call were read.
pub record AreArguments (old new : Standing) (arguments : List ℕ) : Type 0 where
  pub first : List ℕ
  pub others : List (List ℕ)
  pub may : MayCall new.roles [] (first ∷ others)
  pub places : arguments ≡ roles_at new.roles (first ∷ others)
  pub spelled : old ≡ back_at new new.count old.since (Word first ∷ names_behind others new.rest)

-- Statements in front of next. There are n points before them, and m points with theirs. How they are written is proper and fit
-- for these roles, and has these symbols and this tree.
pub record AreStmts (roles : List (List ℕ)) (n m : ℕ) (body : trees.Body) (ts next : List Symbol) : Type 0 where
  pub written : Written
  pub sound : IsProper written × IsFit roles written
  pub spelled : ts ≡ stmts written next
  pub counted : m ≡ n + points written
  pub tree : body ≡ tree_of roles n written

-- The same of blocks, each after this word.
pub record AreBlocks (word : Sign) (roles : List (List ℕ)) (n m : ℕ) (bodies : trees.Bodies) (ts next : List Symbol) : Type 0 where
  pub written : grammar.Blocks
  pub sound : AreProper written × AreFit roles written
  pub spelled : ts ≡ blocks_behind word written next
  pub counted : m ≡ n + points_of written
  pub tree : bodies ≡ trees_of roles n written

-- The whole is the block in front of the tree of statements. If `some` is true, there is at least one of these.
pub record IsBehind (some : Bool) (roles : List (List ℕ)) (n m : ℕ) (block : List Stmt) (whole : trees.Body) (ts next : List Symbol)
    : Type 0 where
  pub body : trees.Body
  pub same : whole ≡ in_front block body
  pub stmts : AreStmts roles n m body ts next
  pub begun : some ≡ true → IsBegun stmts.written

-- Statements were added to the block: with any that stand after them they are statements too.
pub record Adds (some : Bool) (roles : List (List ℕ)) (n n' : ℕ) (block block' : List Stmt) (old new : List Symbol) : Type 0 where
  pub front : (m : ℕ) (body : trees.Body) (next : List Symbol) → AreStmts roles n' m body new next
      → IsBehind some roles n m block (in_front block' body) old next

-- Statements were read, and added to the block, with what may stand before the first of their symbols.
abbrev pub TakesAll : Standing → Standing → List Stmt → List Stmt → Type 0
TakesAll old new block block' = (old ≡ back_at new old.count old.since old.rest)
    × Adds false new.roles old.count new.count block block' old.rest (Is Close ∷ new.rest)

abbrev pub TakesSome : Standing → Standing → List Symbol → List Stmt → List Stmt → Type 0
TakesSome old new sign block block' = (old ≡ back_at new old.count old.since old.rest)
    × Adds true new.roles old.count new.count block block' (sign ++ old.rest) new.rest

-- A block was read, with its braces.
abbrev pub TakesBlock : Standing → Standing → Block → Type 0
TakesBlock old new b = (old ≡ back_at new old.count old.since old.rest) × (inner : List Symbol) × (old.rest ≡ Is Open ∷ inner)
    × (w : AreStmts new.roles old.count new.count (trees.body_of b) inner (Is Close ∷ new.rest)) × IsBegun w.written

-- ---- the head

-- Name . Name ..
abbrev pub module_list : List (List ℕ) → List Symbol → List Symbol
module_list [] next = next
module_list (n ∷ ns) next = Word n ∷ dotted ns next

-- The item is awaited after a name with which the list may end or go on. That is how a list is spelled.
pub record IsNameList (between behind : Sign) (more : Item) (spell : List (List ℕ) → List Symbol → List Symbol)
    : Type 0 where
  pub one : (n : List ℕ) (next : List Symbol) → spell (n ∷ []) next ≡ Word n ∷ next
  pub push : (ns : List (List ℕ)) (m : List ℕ) (next : List Symbol) → ns ≢ []
      → spell (ns ++ m ∷ []) next ≡ spell ns (Is between ∷ Word m ∷ next)
  pub taken : (p : Standing) (k : List Item) → answers (at p (Is between ∷ p.rest)) (more ∷ k) ≡ answers p (AnyName ∷ more ∷ k)
  pub over : (p : Standing) (k : List Item) → IsOver between p → answers p (more ∷ k) ≡ answers p (This (Is behind) ∷ k)

-- Name , role Name ..
abbrev pub names_of_roles : List (List ℕ) → List Symbol → List Symbol
names_of_roles [] next = next
names_of_roles (n ∷ ns) next = Word n ∷ roles_behind ns next

-- The name of one more role was read.
pub record AddsName (old new : Standing) : Type 0 where
  pub name : List ℕ
  pub added : new.roles ≡ old.roles ++ name ∷ []
  pub spelled : old ≡ with_roles new old.roles (Word name ∷ new.rest)

-- The set has these aliases, and no other.
abbrev pub HasThese : BTreeSet (Bor (List ℕ)) → List (List ℕ) → Type 0
HasThese set names = (name : List ℕ) → contains_by (λ n. slice_cmp nat_cmp name n.now) set ≡ is_among name names

-- Declarations were read.
pub record AreTaken (ds : List Decl) (old new : Standing) : Type 0 where
  pub words : AreDecls ds
  pub spelled : old ≡ at new (decls ds new.rest)

-- The head of a module was read, with the word global after it.
pub record IsHead (modules : List (List ℕ)) (ds : List Decl) (old new : Standing) : Type 0 where
  pub some_module : modules ≡ [] → ⊥
  pub words : AreDecls ds
  pub spelled : old ≡ at new (Is Module ∷ module_list modules (Is Semicolon ∷ decls ds (Is Global ∷ new.rest)))

-- The name of one more protocol was read.
pub record AddsProtocol (old new : Standing) (name : List ℕ) : Type 0 where
  pub added : new.protocols ≡ old.protocols ++ name ∷ []
  pub spelled : old ≡ with_protocols new old.protocols (Word name ∷ new.rest)

-- What stands between the word global and the body of a protocol was read, with the body's first brace.
pub record IsOpened (old new : Standing) (name : List ℕ) : Type 0 where
  pub added : new.protocols ≡ old.protocols ++ name ∷ []
  pub some_role : new.roles ≡ [] → ⊥
  pub spelled : old ≡ with_roles (with_protocols new old.protocols new.rest) [] (Is Protocol ∷ Word name ∷ Is Left ∷ Is Role
      ∷ names_of_roles new.roles (Is Right ∷ Is Open ∷ new.rest))

-- A protocol was read, after the word global: it is the tree of what is written, and has the form.
pub record IsProtocol (old new : Standing) (p : ProtocolTree) : Type 0 where
  pub written : WrittenProtocol
  pub tree : IsTreeOf written p
  pub proper : IsProper written.body
  pub form : HasForm (trees.body_of p.body) (length p.roles)
  pub spelled : old.rest ≡ Is Protocol ∷ declared written new.rest
  pub anew : new ≡ afresh (old.protocols ++ p.name ∷ []) new.rest
  pub few : length new.protocols ≤ 64

-- nothing is read yet
abbrev pub at_first : List Symbol → Standing
at_first ts = afresh [] ts

-- the whole answer
abbrev pub Ends : Stop → List Symbol → List Symbol → Type 0
Ends errors.Memory old new = Unit {0}
Ends (errors.Refused fault) old new = IsFirst old fault new
