-- What is read behind what was read so far, which has room.
use Rattle.std.proofs.Common.{◌≡◌, ◌≤◌, [], ◌∷◌, length, None}
use Rattle.rcv_dialogue.specs.Left.{left}
use Rattle.rcv_dialogue.specs.Reading.{cuts_at}
use Rattle.rcv_dialogue.proofs.failures.cuts.Given as goal

abbrev pub invariant-loop-word : goal.invariant-loop-word
invariant-loop-word l =
    (cuts_at l.fn.accepted l.found None (left l.left) ≡ cuts_at l.fn.accepted (l.fn.first ∷ []) None (left l.fn.words))
    × (length l.found ≤ 8)

abbrev pub decreases-loop-word : goal.decreases-loop-word
decreases-loop-word l = length l.left
