-- What the entries so far leave.
use Rattle.std.proofs.Common.{◌≡◌, length}
use Rattle.rcv_tree.specs.Lists.{lists_in}
use Rattle.rcv_story.proofs.Passing.{IsPass}
use Rattle.rcv_story.proofs.undoing.undoing_of.Given as goal

abbrev pub invariant-loop-place : goal.invariant-loop-place
invariant-loop-place l =
    (length l.crashes ≡ 8)
    × IsPass l.record.entries l.place (lists_in l.stacks.items) l.crashes l.undone.items l.recoveries.items
