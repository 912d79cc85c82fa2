-- A book and the cells of its roles: at home, where each cell has what the book tells of its role; and out, with their
-- logs.
use Rattle.std.specs.Prelude.{◌≡◌, ℕ, ◌<◌, ◌≤◌, List, [], length, map, slice_index, slice_index_or}
use Rattle.rcv_tree.specs.declared.entry.Entry.{Entry}
use Rattle.rcv_tree.specs.declared.entry.Timed.{Timed}
use Rattle.rcv_model.specs.Journal.{State, own_of, reading_from}
use Rattle.rcv_theory.specs.Round.{entries, IsLog}
use Rattle.rcv_ring.specs.Lists.{Begins}
use Rattle.rcv_mailbox.specs.Ends.{End, IsChannel}
use Rattle.rcv_session.specs.Session.{SessionView, roles_of, rules_of}
use Rattle.rcv_core.specs.Book.{BookView, state_of, with_more}
use Rattle.rcv_role.specs.Part.{HasNoStrangers}
use Rattle.rcv_role.specs.Ends.{end_at}
use Rattle.rcv_role.specs.Cell.{CellView, IsSettled, Goes, HasMet, HaveMet}

-- The cell of a role. Cells stand in order of declaration.
abbrev pub cell_at : List CellView → ℕ → CellView → CellView
cell_at cells r d = slice_index_or cells r d

-- The ends of each channel are a post of its sender's cell and an inbox of its receiver's.
abbrev pub AreJoined : ℕ → List CellView → Type 0
AreJoined roles cells =
    (s r : ℕ) (d : CellView) (e : End) → s < roles → r < roles → (s ≡ r → ⊥)
    → IsChannel (end_at (cell_at cells s d).posts s r e) (end_at (cell_at cells r d).inboxes r s e)

-- What was taken from each channel begins what was put on it.
abbrev pub AreBegun : ℕ → List CellView → Type 0
AreBegun roles cells =
    (s r : ℕ) (d : CellView) (e : End) → s < roles → r < roles → (s ≡ r → ⊥)
    → Begins (end_at (cell_at cells r d).inboxes r s e).list (end_at (cell_at cells s d).posts s r e).list

-- The cell of role r: its log is one of the role at this state. After the log, the state has of the role what the cell has: its kept
-- events and its numbers. The cell's ends hold what its events say.
pub record IsOutAt (setup : SessionView) (s : State) (r : ℕ) (c : CellView) : Type 0 where
  pub setup_is : c.part.setup ≡ setup
  pub role_is : c.part.role ≡ r
  pub lawful : IsLog (rules_of setup) r s c.part.log
  pub own : own_of (reading_from (rules_of setup) s (entries c.part.log)) r ≡ c.part.own
  pub settled : IsSettled c
  pub strangers : HasNoStrangers c.part

-- The cells of all roles, out with their logs.
pub record AreOut (book : BookView) (cells : List CellView) : Type 0 where
  pub count : length cells ≡ roles_of book.setup
  pub each : (r : ℕ) (d : CellView) → r < roles_of book.setup → IsOutAt book.setup (state_of book) r (cell_at cells r d)
  pub joined : AreJoined (roles_of book.setup) cells

-- At home no log holds an entry: what the book reads is what the cells have.
pub record AreHome (book : BookView) (cells : List CellView) : Type 0 where
  pub out : AreOut book cells
  pub begun : AreBegun (roles_of book.setup) cells
  pub logs : (r : ℕ) (d : CellView) → r < roles_of book.setup → (cell_at cells r d).part.log ≡ []

-- How many steps a cell makes in one round at most.
abbrev pub round_steps : ℕ
round_steps = 1024

-- A cell that may run.
abbrev pub IsReady : CellView → Type 0
IsReady c = IsSettled c × (length c.part.log ≤ round_steps)

-- Each of the cells went on, or stayed as it was.
abbrev pub AllGo : List CellView → List CellView → Type 0
AllGo old new =
    (length new ≡ length old) × ((r : ℕ) (d : CellView) → r < length old → Goes (cell_at old r d) (cell_at new r d))

-- Each tells what it told, except for what its ends know of the others.
abbrev pub AllMet : List CellView → List CellView → Type 0
AllMet old new = (length new ≡ length old) × ((r : ℕ) (d : CellView) → HasMet (cell_at old r d) (cell_at new r d))

-- So many of the first cells have forgotten the states before these counts. If the list of counts ends before a cell, its count is 0.
abbrev pub HaveBases : ℕ → List ℕ → List CellView → Type 0
HaveBases roles line cells = (r : ℕ) (d : CellView) → r < roles → (cell_at cells r d).part.base ≡ slice_index line r

-- None of the cells forgot anything.
abbrev pub SameBases : List CellView → List CellView → Type 0
SameBases old new = (r : ℕ) (d : CellView) → (cell_at new r d).part.base ≡ (cell_at old r d).part.base

abbrev pub logs_in : List CellView → List (List Timed)
logs_in cells = map (λ (c : CellView). c.part.log) cells

-- Two cells of one session, with the ends of the channel from one to the other.
pub record CanMeet (receiver sender : CellView) : Type 0 where
  pub setup : sender.part.setup ≡ receiver.part.setup
  pub apart : sender.part.role ≡ receiver.part.role → ⊥
  pub channel : (e : End) → IsChannel (end_at sender.posts sender.part.role receiver.part.role e)
      (end_at receiver.inboxes receiver.part.role sender.part.role e)

abbrev pub AllCanMeet : List CellView → Type 0
AllCanMeet cells =
    (s r : ℕ) (d : CellView) → s < length cells → r < length cells → (s ≡ r → ⊥)
    → CanMeet (cell_at cells r d) (cell_at cells s d)

-- What the receiver took from the channel begins what the sender put on it.
pub record HasBegun (receiver sender : CellView) : Type 0 where
  pub there : End
  pub begins : (e : End) → Begins (end_at receiver.inboxes receiver.part.role sender.part.role e).list
      (end_at sender.posts sender.part.role receiver.part.role e).list

abbrev pub AllBegun : List CellView → Type 0
AllBegun cells =
    (s r : ℕ) (d : CellView) → s < length cells → r < length cells → (s ≡ r → ⊥)
    → HasBegun (cell_at cells r d) (cell_at cells s d)

-- One cell met another one as its sender, and each end of the channel from it learnt what the other one did.
pub record ArePaired (sender sender_now receiver receiver_now : CellView) : Type 0 where
  pub between : ℕ
  pub met : HaveMet sender sender_now receiver receiver_now between

-- And what the receiver took from the channel begins what the sender put on it.
pub record HaveTold (receiver receiver_now sender sender_now : CellView) : Type 0 where
  pub paired : ArePaired sender sender_now receiver receiver_now
  pub begun : HasBegun receiver sender

abbrev pub HavePaired : List CellView → List CellView → ℕ → ℕ → Type 0
HavePaired old new from to =
    (d : CellView) → ArePaired (cell_at old from d) (cell_at new from d) (cell_at old to d) (cell_at new to d)

-- Entries were added.
pub record HasGrown (old new : BookView) : Type 0 where
  pub more : List Entry
  pub added : new ≡ with_more old more
