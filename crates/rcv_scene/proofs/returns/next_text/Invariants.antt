-- The points so far.
use Rattle.std.proofs.Common.{take}
use Rattle.rcv_scene.specs.Recoveries.{NamesAll}
use Rattle.rcv_scene.proofs.returns.next_text.Given as goal

abbrev pub invariant-loop-number : goal.invariant-loop-number
invariant-loop-number l = NamesAll (take l.number l.next) l.text.items
