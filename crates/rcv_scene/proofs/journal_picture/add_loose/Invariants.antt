-- Nothing was said so far.
use Rattle.rcv_scene.proofs.Telling.{IsSilent}
use Rattle.rcv_scene.proofs.journal_picture.add_loose.Given as goal

abbrev pub invariant-loop-number : goal.invariant-loop-number
invariant-loop-number l = IsSilent l.fn.groups.items l.groups.items
