use Rattle.rcv_role.proofs.Running.{IsRunning}
use Rattle.rcv_role.proofs.cell.Cell.run.Given as goal

abbrev pub invariant-loop : goal.invariant-loop
invariant-loop o l = IsRunning l.initial.self l.self l.initial.watch l.watch l.counter
