-- One item more.
use Rattle.std.proofs.Common.{◌∙◌, ap, ◌∷◌, ◌++◌, []}
use Rattle.rcv_story.proofs.Marking.{one_filled}
use Rattle.rcv_story.proofs.receipts.filled.Goals as goal

pub loop-number-preserved : goal.loop-number-preserved
loop-number-preserved g c = c.in_ok-push.ensures.items ∙ ap (λ l. l ++ c.args.item ∷ []) c.loop-number.invariant ∙ one_filled c.loop-number._number c.args.item
