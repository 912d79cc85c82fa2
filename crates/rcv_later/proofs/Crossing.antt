-- A setup can go to another thread.
use denote.Param.Send.{IsSend, sendable}
use Rattle.std.proofs.Crossing as std
use Rattle.rcv_tree.proofs.statement.Stmt.TheLaws.TheKnot as stmt
use Rattle.rcv_accept.specs.contracts.accepted.Accepted as accepted
use Rattle.rcv_formula.proofs.expression.Formula.TheSendSync as formula
use Rattle.rcv_script.specs.contracts.scripts.Scripts as scripts
use Rattle.rcv_core.specs.contracts.setup.Setup as setup

accepted_send : IsSend accepted.the_row
accepted_send = search (std.crosses, stmt.crosses, sendable) depth 60 fits 20000

scripts_send : IsSend scripts.the_row
scripts_send = search (std.crosses, formula.the_send, sendable) depth 60 fits 20000

pub setup_send : IsSend setup.the_row
setup_send = search (std.crosses, accepted_send, scripts_send, sendable) depth 60 fits 20000
