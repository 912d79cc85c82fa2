use Rattle.std.proofs.Common.{◌≡◌, map}
use Rattle.rcv_module.specs.Parts.{sites}
use Rattle.rcv_do.specs.Code.{call_of, parts_in}
use Rattle.rcv_do.specs.Rows.{AreRowsOf}
use Rattle.rcv_do.proofs.Faulting.{NoneBefore}
use Rattle.rcv_do.proofs.table.first_fault.Given as goal

abbrev pub invariant-loop-number : goal.invariant-loop-number
invariant-loop-number l = l.calls ≡ map (call_of (parts_in l.parts)) (sites (parts_in l.parts)) → AreRowsOf (parts_in l.parts) l.rows → NoneBefore (parts_in l.parts) l.number
