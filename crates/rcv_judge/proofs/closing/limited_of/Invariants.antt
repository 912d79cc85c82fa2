use Rattle.std.proofs.Common.{◌≡◌, take}
use Rattle.rcv_journal.specs.Lines.{limited_in}
use Rattle.rcv_judge.proofs.closing.limited_of.Given as goal

abbrev pub invariant-loop-line : goal.invariant-loop-line
invariant-loop-line l = l.limited.items ≡ limited_in (take l.line-index l.lines)
