-- What is asked of machines that work together: they don't get stuck, expect each message that they meet, and leave none.
use Rattle.std.specs.Prelude.{◌≡◌, ℕ, ◌<◌, ◌⊎◌, List, [], ◌∷◌}
use Rattle.rcv_tree.specs.declared.event.Event.{Event}
use Rattle.rcv_tree.specs.declared.event.Message.{Message}
use Rattle.rcv_model.specs.Net.{Net, IsIn}
use Rattle.rcv_model.specs.Run.{channel}
use Rattle.rcv_project.specs.Act.{Receiving, Ended, IsActAt}
use Rattle.rcv_fidelity.specs.Machines.{place_after, IsMachineStep}

-- Each role's machine is at its end.
abbrev pub AreAtEnd : Net → ℕ → List Event → Type 0
AreAtEnd net roles h = (r : ℕ) → r < roles → IsActAt net r (place_after r h) Ended

-- Some machine can make a step, or all are at their ends. If a machine receives from a role whose message lies in front, this
-- is one that it expects. If all are at their ends, no channel holds a message.
pub record AreSafe (net : Net) (roles : ℕ) (h : List Event) : Type 0 where
  pub not_stuck : ((e : Event) × IsMachineStep net h e) ⊎ AreAtEnd net roles h
  pub expected : (r from : ℕ) (points : List ℕ) (front : Message) (rest : List Message)
      → IsActAt net r (place_after r h) (Receiving from points) → channel net from r h ≡ front ∷ rest → IsIn front.point points
  pub none_left : AreAtEnd net roles h → (from to : ℕ) → channel net from to h ≡ []
