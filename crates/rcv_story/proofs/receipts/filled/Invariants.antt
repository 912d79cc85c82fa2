use Rattle.std.proofs.Common.{◌≡◌, replicate}
use Rattle.rcv_story.proofs.receipts.filled.Given as goal

abbrev pub invariant-loop-number : goal.invariant-loop-number
invariant-loop-number g l = l.items.items ≡ replicate l._number l.item
