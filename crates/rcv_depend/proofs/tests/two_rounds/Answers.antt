-- The events are those of the text, twice.
use Rattle.std.proofs.Common.{[], ◌∷◌}
use Rattle.rcv_tree.specs.declared.event.Dir.TheVariants.{Sent, Got}
use Rattle.rcv_depend.specs.Rounds.{at}
use Rattle.rcv_depend.proofs.Rounds.{told, two_rounds_are}
use Rattle.rcv_depend.proofs.tests.two_rounds.Goals as goal

pub returns : goal.returns
returns c =
    told (λ p q r s. p ∷ q ∷ r ∷ s ∷ c.event-5.result ∷ c.event-6.result ∷ c.event-7.result ∷ c.event-8.result ∷ []) c.event.result c.event-2.result c.event-3.result c.event-4.result c.event.ensures c.event-2.ensures c.event-3.ensures c.event-4.ensures
    (told (λ p q r s. at 0 Sent 1 ∷ at 1 Got 1 ∷ at 1 Sent 2 ∷ at 0 Got 2 ∷ p ∷ q ∷ r ∷ s ∷ []) c.event-5.result c.event-6.result c.event-7.result c.event-8.result c.event-5.ensures c.event-6.ensures c.event-7.ensures c.event-8.ensures two_rounds_are)
