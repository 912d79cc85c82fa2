use Rattle.std.proofs.Common.{take}
use Rattle.rcv_model.specs.Net.{IsIn}
use Rattle.rcv_do.proofs.order.before.Given as goal

abbrev pub invariant-loop-index : goal.invariant-loop-index
invariant-loop-index l = IsIn l.place (take l.index l.order) → ⊥
