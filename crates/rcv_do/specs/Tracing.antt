-- What the tracing of a text's points says.
use Rattle.std.specs.Prelude.{◌≡◌, ℕ, ◌+◌, ◌^◌, ◌<◌, List, [], ◌++◌, length}
use Rattle.rcv_tree.specs.declared.statement.Stmt.{Stmt}
use Rattle.rcv_model.specs.Text.{Body, End, Bodies, NoMore, stmt_body}
use Rattle.rcv_module.specs.declared.origin.Origin.{Origin}
use Rattle.rcv_module.specs.Origins.{Come, AllCome}
use Rattle.rcv_module.specs.Parts.{sites, calls, calls_of}
use Rattle.rcv_module.specs.Refusing.{AreCallable}
use Rattle.rcv_do.specs.declared.trace.Tracing.{Tracing}
use Rattle.rcv_do.specs.Code.{parts_in, AreFirsts, CallsBehind, AreUnder}

-- The module may be expanded, has no more calls than a number can say, and what may be called stands in order.
pub record IsTraceable (x : Tracing) : Type 0 where
  pub callable : AreCallable (parts_in x.parts)
  pub few : length (sites (parts_in x.parts)) < 2 ^ 64
  pub firsts : AreFirsts (parts_in x.parts) x.firsts.now
  pub behind : CallsBehind (parts_in x.parts) [] x.under.now

-- These were added from a text to what is left of it. The first call of the text has one number, and that of what is left another.
pub record Traces (x : Tracing) (n n' : ℕ) (whole left : Body) (old new : List Origin) : Type 0 where
  pub added : List Origin
  pub is : new ≡ old ++ added
  pub passed : n' + length (calls 0 left) ≡ n + length (calls 0 whole)
  pub under : AreUnder (parts_in x.parts) x.under.now (calls 0 left)
  pub come : (os : List Origin) (m : ℕ) → Come (parts_in x.parts) x.holder x.through.now n' left os m
      → Come (parts_in x.parts) x.holder x.through.now n whole (added ++ os) m

pub record AllTrace (x : Tracing) (n n' : ℕ) (whole left : Bodies) (old new : List Origin) : Type 0 where
  pub added : List Origin
  pub is : new ≡ old ++ added
  pub passed : n' + length (calls_of 0 left) ≡ n + length (calls_of 0 whole)
  pub under : AreUnder (parts_in x.parts) x.under.now (calls_of 0 left)
  pub come : (os : List Origin) (m : ℕ) → AllCome (parts_in x.parts) x.holder x.through.now n' left os m
      → AllCome (parts_in x.parts) x.holder x.through.now n whole (added ++ os) m

abbrev pub Traced : Tracing → ℕ → ℕ → Body → List Origin → List Origin → Type 0
Traced x n n' whole old new =
    IsTraceable x → AreUnder (parts_in x.parts) x.under.now (calls 0 whole) → n + length (calls 0 whole) < 2 ^ 64
    → Traces x n n' whole End old new

abbrev pub TracedBlocks : Tracing → ℕ → ℕ → Bodies → List Origin → List Origin → Type 0
TracedBlocks x n n' whole old new =
    IsTraceable x → AreUnder (parts_in x.parts) x.under.now (calls_of 0 whole) → n + length (calls_of 0 whole) < 2 ^ 64
    → AllTrace x n n' whole NoMore old new

abbrev pub TracedStmt : Tracing → ℕ → ℕ → Stmt → List Origin → List Origin → Type 0
TracedStmt x n n' stmt old new =
    IsTraceable x → (rest : Body) → AreUnder (parts_in x.parts) x.under.now (calls 0 (stmt_body stmt rest))
    → n + length (calls 0 (stmt_body stmt rest)) < 2 ^ 64 → Traces x n n' (stmt_body stmt rest) rest old new
