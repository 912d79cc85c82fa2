use Rattle.std.proofs.Common.{◌≡◌, take}
use Rattle.rcv_script.proofs.scripts.messages_of.Given as goal

abbrev pub invariant-loop-number : goal.invariant-loop-number
invariant-loop-number l = l.messages.items ≡ take l.number l.points.messages
