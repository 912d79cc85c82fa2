-- What is read behind what was read so far, which has room.
use Rattle.std.proofs.Common.{◌≡◌, ◌≤◌, [], ◌∷◌, length}
use Rattle.rcv_dialogue.specs.Left.{left}
use Rattle.rcv_dialogue.specs.Reading.{more_at}
use Rattle.rcv_dialogue.proofs.failures.more.Given as goal

abbrev pub invariant-loop-word : goal.invariant-loop-word
invariant-loop-word l =
    (more_at l.fn.accepted l.fn.stops l.found (left l.left) ≡ more_at l.fn.accepted l.fn.stops (l.fn.first ∷ []) (left l.fn.words))
    × (length l.found ≤ 8)

abbrev pub decreases-loop-word : goal.decreases-loop-word
decreases-loop-word l = length l.left
