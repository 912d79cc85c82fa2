-- Laws of the definitions.
use Rattle.std.specs.Prelude.{ℕ, ◌+◌, ◌<◌, ◌≤◌, ◌↔◌, List, length}
use Rattle.rcv_tree.specs.declared.event.Event.{Event}
use Rattle.rcv_model.specs.Net.{Net}
use Rattle.rcv_model.specs.Run.{taken}
use Rattle.rcv_costs.specs.Losses.{IsReceivedAgain, again_on}

-- The messages of a channel that are received again are so many: those whose numbers come next to the Recvs that are kept.
abbrev pub AgainIsCounted : Type 0
AgainIsCounted =
    (net : Net) (old new : List Event) (s r k : ℕ)
    → IsReceivedAgain net old new s r k
    ↔ ((length (taken net s r new) ≤ k) × (k < length (taken net s r new) + again_on net old new s r))
