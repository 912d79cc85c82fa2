-- The lanes of a text as lists of statements.
use Rattle.std.specs.Prelude.{◌≡◌, ℕ}
use Rattle.rcv_tree.specs.declared.statement.Stmt.{Stmt}
use Rattle.rcv_model.specs.Text.{Body, stmt_body, body_from}
use Rattle.rcv_model.specs.Places.{Lane, run_of, lanes_behind}
use Rattle.rcv_points.specs.declared.lanes.LaneText.{LaneText}

-- what a lane of a text says
abbrev pub lane_text : LaneText → Lane
lane_text l = record { stage = l.stage; body = body_from l.stmts.now }

-- No par begins at the statement: the run before it goes on.
pub record StaysInRun (stmt : Stmt) : Type 0 where
  pub run : (rest : Body) → run_of (stmt_body stmt rest) ≡ stmt_body stmt (run_of rest)
  pub behind : (s : ℕ) (rest : Body) → lanes_behind s (stmt_body stmt rest) ≡ lanes_behind s rest
