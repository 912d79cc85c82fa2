-- The events are those of the text.
use Rattle.std.proofs.Common.{[], ◌∷◌}
use Rattle.rcv_depend.proofs.Rounds.{told, one_round_is}
use Rattle.rcv_depend.proofs.tests.one_round.Goals as goal

pub returns : goal.returns
returns c = told (λ p q r s. p ∷ q ∷ r ∷ s ∷ []) c.event.result c.event-2.result c.event-3.result c.event-4.result c.event.ensures c.event-2.ensures c.event-3.ensures c.event-4.ensures one_round_is
