-- A setup says the same to every thread.
use denote.Param.Send.{IsSync, sendable, view_sync, recorded_sync, struct_sync}
use denote.Struct.Declared.{shape}
use Rattle.std.proofs.Crossing as std
use Rattle.rcv_tree.proofs.statement.Stmt.TheLaws.TheKnot as stmt
use Rattle.rcv_accept.specs.contracts.accepted.Accepted as accepted
use Rattle.rcv_formula.proofs.expression.Formula.TheSendSync as formula
use Rattle.rcv_script.specs.contracts.scripts.Scripts as scripts
use Rattle.rcv_core.specs.contracts.setup.Setup as setup
use Rattle.rcv_core.specs.contracts.setup.Setup.TheInside as inside

accepted_sync : IsSync accepted.the_row
accepted_sync = search (std.crosses, stmt.crosses, sendable) depth 60 fits 20000

scripts_sync : IsSync scripts.the_row
scripts_sync = search (std.crosses, formula.the_sync, sendable) depth 60 fits 20000

pub setup_sync : IsSync setup.the_row
setup_sync = view_sync inside.the_row _ _ _ _ (recorded_sync (inside.the_field).row _ _ (inside.the_type).to_one (struct_sync (shape inside.the_type) (accepted_sync, (scripts_sync, (search (std.crosses, sendable) depth 60 fits 20000, (search (std.crosses, sendable) depth 60 fits 20000, tt))))))
