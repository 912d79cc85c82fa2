use Rattle.std.proofs.Common.{◌≡◌, map, take}
use Rattle.rcv_script.specs.Acts.{acts_by_point}
use Rattle.rcv_script.specs.Lines.{line_of}
use Rattle.rcv_script.proofs.acts.ActsByPoint.of.Given as goal

abbrev pub invariant-loop-message : goal.invariant-loop-message
invariant-loop-message l = l.acts.items ≡ acts_by_point (take l.message-index l.messages) (map line_of l.lines)
