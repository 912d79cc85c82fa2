use Rattle.std.proofs.Common.{◌≡◌, take}
use Rattle.rcv_script.specs.Machine.{no_lines}
use Rattle.rcv_script.proofs.read.no_lines.Given as goal

abbrev pub invariant-loop-name : goal.invariant-loop-name
invariant-loop-name l = l.scripts.items ≡ no_lines (take l._name-index l.roles)
