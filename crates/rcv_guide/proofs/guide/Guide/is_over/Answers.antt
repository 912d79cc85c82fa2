-- Where no point comes next the part has ended.
use Rattle.std.proofs.Common.{sym, ◌∙◌}
use Rattle.rcv_guide.proofs.Placing.{none_in_none, some_in}
use Rattle.rcv_guide.proofs.guide.Guide.is_over.Goals as goal

pub returns : goal.returns
returns c = (
  (λ over p next. none_in_none c.next.result.now p (sym c.is_empty.ensures ∙ over) (c.next.ensures.complete p next)),
  λ none. c.is_empty.ensures ∙ some_in c.next.result.now (λ p i. none p (c.next.ensures.sound p i)),
)
