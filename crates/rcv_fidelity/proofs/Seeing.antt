-- A machine sees what its role did and what lies in the channels to it, and nothing else.
use Rattle.std.proofs.Common.{◌≡◌, ℕ, List, sym, ◌∙◌, subst}
use Rattle.rcv_tree.specs.declared.event.Event.{Event}
use Rattle.rcv_model.specs.Net.{Net}
use Rattle.rcv_model.specs.Run.{acts, place_of, channel}
use Rattle.rcv_project.specs.Act.{ActView, Sending, Receiving, Ended, IsActAt}
use Rattle.rcv_fidelity.specs.Machines.{CanMake, IsMachineStep}

pub sees_its_own : (net : Net) (h g : List Event) (e : Event) → acts e.role h ≡ acts e.role g → ((from : ℕ) → channel net from e.role h ≡ channel net from e.role g) → IsMachineStep net h e → IsMachineStep net g e
sees_its_own net h g e did lies step = record { act = step.act; does = subst (λ l. IsActAt net e.role (place_of 0 l) step.act) did step.does; makes = go step.act step.makes }
  where
    go : (act : ActView) → CanMake act net h e → CanMake act net g e
    go (Sending zs) m = m
    go (Receiving from zs) m = (m.0, m.1, (m.2.0, sym (lies from) ∙ m.2.1))
    go Ended m = m
