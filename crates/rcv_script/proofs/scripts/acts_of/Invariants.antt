use Rattle.std.proofs.Common.{◌≡◌, map, take}
use Rattle.rcv_script.specs.Acts.{acts_by_point}
use Rattle.rcv_script.proofs.scripts.acts_of.Given as goal

abbrev pub invariant-loop-script : goal.invariant-loop-script
invariant-loop-script l = l.acts.items ≡ map (acts_by_point l.messages) (take l.script-index l.roles)
