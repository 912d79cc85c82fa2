-- What copies and expansions of a text say.
use Rattle.std.specs.Prelude.{◌≡◌, ℕ, ◌+◌, ◌≤◌, Option, Some, None, List, [], ◌∷◌, ◌++◌, length, slice_get, slice_index_or}
use Rattle.rcv_tree.specs.declared.statement.Stmt.{Stmt}
use Rattle.rcv_tree.specs.declared.statement.Block.{Block}
use Rattle.rcv_model.specs.Text.{Body, End, Bodies, stmt_body, body_of}
use Rattle.rcv_model.specs.Form.{IsNumberedFrom}
use Rattle.rcv_model.specs.Places.{SingleMessage, singles, singles_of}
use Rattle.rcv_module.specs.Parts.{Part, calls, calls_of}
use Rattle.rcv_module.specs.Expansion.{Stands, themselves, Expands, AllExpand}
use Rattle.rcv_module.specs.Refusing.{AreCallable}
use Rattle.rcv_do.specs.declared.expansion.Expanding.{Expanding}
use Rattle.rcv_do.specs.Code.{parts_in, CallsBehind, AreUnder}

-- these statements in front of a body
abbrev pub in_front : List Stmt → Body → Body
in_front [] rest = rest
in_front (s ∷ ss) rest = stmt_body s (in_front ss rest)

-- After n points these messages are the next ones, up to n'; if there are at most 256.
abbrev pub Counts : ℕ → ℕ → List (ℕ × SingleMessage) → Type 0
Counts n n' made =
    n + length made ≤ 256
    → (n' ≡ n + length made) × ((es : List (ℕ × SingleMessage)) → IsNumberedFrom (n' + 1) es → IsNumberedFrom (n + 1) (made ++ es))

-- These statements lead from a text to what is left of it: they are its expansion so far.
pub record Leads (parts : List Part) (stands : Stands) (n n' : ℕ) (whole left : Body) (added : List Stmt) : Type 0 where
  pub made : List (ℕ × SingleMessage)
  pub expands : (next w : Body) → Expands parts stands left next w → Expands parts stands whole next (in_front added w)
  pub messages : (w : Body) → singles (in_front added w) ≡ made ++ singles w
  pub counts : Counts n n' made

-- These blocks are the expansions of those.
pub record AllLead (parts : List Part) (stands : Stands) (n n' : ℕ) (whole copies : Bodies) : Type 0 where
  pub expands : AllExpand parts stands whole copies
  pub counts : Counts n n' (singles_of copies)

-- Statements were added.
pub record Added (parts : List Part) (stands : Stands) (n n' : ℕ) (whole left : Body) (old new : List Stmt) : Type 0 where
  pub added : List Stmt
  pub is : new ≡ old ++ added
  pub leads : Leads parts stands n n' whole left added

-- What the roles of a text stand for: the arguments, in order. A role without one stands for the other role, or for itself.
abbrev pub otherwise : Option ℕ → Stands
otherwise None r = r
otherwise (Some other) r = other

abbrev pub stands_of : Expanding → Stands
stands_of x r = slice_index_or x.arguments.now r (otherwise x.other r)

-- The module may be expanded, what may be called stands in order, and the roles stand for these.
pub record IsExpandable (x : Expanding) (stands : Stands) : Type 0 where
  pub callable : AreCallable (parts_in x.parts)
  pub behind : CallsBehind (parts_in x.parts) [] x.under.now
  pub stand : (r : ℕ) → stands r ≡ stands_of x r

abbrev pub Expanded : Expanding → ℕ → ℕ → Body → List Stmt → List Stmt → Type 0
Expanded x n n' whole old new =
    (stands : Stands) → IsExpandable x stands → AreUnder (parts_in x.parts) x.under.now (calls 0 whole)
    → Added (parts_in x.parts) stands n n' whole End old new

abbrev pub ExpandedBlocks : Expanding → ℕ → ℕ → Bodies → Bodies → Type 0
ExpandedBlocks x n n' whole copies =
    (stands : Stands) → IsExpandable x stands → AreUnder (parts_in x.parts) x.under.now (calls_of 0 whole)
    → AllLead (parts_in x.parts) stands n n' whole copies

abbrev pub ExpandedStmt : Expanding → ℕ → ℕ → Stmt → List Stmt → List Stmt → Type 0
ExpandedStmt x n n' stmt old new =
    (stands : Stands) → IsExpandable x stands → (rest : Body) → AreUnder (parts_in x.parts) x.under.now (calls 0 (stmt_body stmt rest))
    → Added (parts_in x.parts) stands n n' (stmt_body stmt rest) rest old new × AreUnder (parts_in x.parts) x.under.now (calls 0 rest)

-- This is the expansion of the protocol at a place.
pub record IsExpansionAt (parts : List Part) (place : ℕ) (block : Block) : Type 0 where
  pub part : Part
  pub is : slice_get parts place ≡ Some part
  pub expands : Expands parts themselves part.body End (body_of block)

-- Its points are in text order, if there are at most 256.
abbrev pub IsNumberedWhole : Block → Type 0
IsNumberedWhole block = length (singles (body_of block)) ≤ 256 → IsNumberedFrom 1 (singles (body_of block))
