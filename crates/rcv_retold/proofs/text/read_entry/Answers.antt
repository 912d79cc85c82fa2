-- The line says nothing.
use Rattle.rcv_lines.specs.Line.{EntryLine}
use Rattle.rcv_retold.proofs.text.read_entry.Goals as goal

pub returns-in-None-clause-none : goal.returns-in-None-clause-none
returns-in-None-clause-none c = λ e formed is. let none = rw c.in-None.is at c.in_ok-said.ensures.none in none (EntryLine e) (formed, is)
