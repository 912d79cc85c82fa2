use Rattle.std.proofs.Common.{◌≡◌, ◌+◌, ◌-◌, ◌++◌, take, length}
use Rattle.rcv_tree.specs.Lists.{statements}
use Rattle.rcv_reader.specs.Descent.{messages}
use Rattle.rcv_reader.proofs.parser.messages.add_messages.Given as goal

abbrev pub invariant-loop-receiver : goal.invariant-loop-receiver
invariant-loop-receiver l = (statements l.block ≡ statements l.fn.block
    ++ messages l.label l.sorts l.sender (take l.receiver-index l.receivers) (l.points - length l.receivers))
    × (l.point ≡ l.points - length l.receivers + l.receiver-index)
