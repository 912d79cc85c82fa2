-- One step of a role: what is asked of its cell, what a poll did, and cells that are out with the step's entry alone.
use Rattle.std.specs.Prelude.{◌≡◌, ◌⊎◌, ℕ, ◌<◌, false, List, [], ◌∷◌}
use Rattle.rcv_tree.specs.declared.entry.Entry.{Entry}
use Rattle.rcv_tree.specs.declared.entry.Entry.TheVariants.{Send, Recv}
use Rattle.rcv_tree.specs.declared.event.Event.{Event}
use Rattle.rcv_model.specs.Final.{IsStep}
use Rattle.rcv_theory.specs.Round.{role_of}
use Rattle.rcv_mailbox.specs.Ends.{End}
use Rattle.rcv_session.specs.Session.{roles_of, rules_of}
use Rattle.rcv_core.specs.Book.{BookView, state_of}
use Rattle.rcv_role.specs.declared.poll.Poll.{Poll}
use Rattle.rcv_role.specs.Ends.{AreEnds}
use Rattle.rcv_role.specs.Cell.{CellView, Goes}
use Rattle.rcv_role.specs.Poll.{Polled}
use Rattle.rcv_cells.specs.Home.{cell_at, IsReady, AreOut, AreBegun}

-- The entry is the one that one thread makes next, and this event's Send or Recv.
pub record IsNextEvent (book : BookView) (entry : Entry) (e : Event) : Type 0 where
  pub step : IsStep (rules_of book.setup) (state_of book) entry
  pub is : (entry ≡ Send e) ⊎ (entry ≡ Recv e)

-- A cell at home, whose role isn't crashed.
pub record CanPoll (c : CellView) : Type 0 where
  pub running : c.part.own.numbers.crashed ≡ false
  pub ready : IsReady c

-- What one poll did.
pub record WasPolled (old new : CellView) : Type 0 where
  pub poll : Poll
  pub polled : Polled old new poll
  pub goes : Goes old new
  pub ends : AreEnds (rules_of new.part.setup) new.part.role new.posts new.inboxes

-- The cells are out, and this entry, which one thread makes next, is the only one in their logs.
pub record AreOutWith (book : BookView) (cells : List CellView) (entry : Entry) : Type 0 where
  pub step : IsStep (rules_of book.setup) (state_of book) entry
  pub out : AreOut book cells
  pub begun : AreBegun (roles_of book.setup) cells
  pub declared : role_of entry < roles_of book.setup
  pub stamp : ℕ
  pub made : (d : CellView) → (cell_at cells (role_of entry) d).part.log ≡ record { stamp = stamp; step = entry } ∷ []
  pub others : (r : ℕ) (d : CellView) → r < roles_of book.setup → (r ≡ role_of entry → ⊥)
      → (cell_at cells r d).part.log ≡ []
  pub there : (s r : ℕ) → s < roles_of book.setup → r < roles_of book.setup → (s ≡ r → ⊥) → End
