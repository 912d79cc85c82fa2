-- Cells whose logs will come into their book: what they have made, and the book doesn't have yet.
use Rattle.std.specs.Prelude.{◌≡◌, ◌<◌, List, [], ◌∷◌, ◌++◌, length, map}
use Rattle.rcv_tree.specs.declared.entry.Entry.{Entry}
use Rattle.rcv_tree.specs.declared.entry.Entry.TheVariants.{Send, Recv, Crash, Recover}
use Rattle.rcv_tree.specs.declared.event.Event.{Event}
use Rattle.rcv_model.specs.Net.{IsPrefix}
use Rattle.rcv_model.specs.Journal.{events_of}
use Rattle.rcv_session.specs.Session.{roles_of}
use Rattle.rcv_core.specs.Book.{BookView, state_of, with_more}
use Rattle.rcv_role.specs.Cell.{CellView, without_log}
use Rattle.rcv_cells.specs.Home.{cell_at, AreHome}

-- The entry is no Recover; and none of these is one.
abbrev pub IsNoRecover : Entry → Type 0
IsNoRecover (Send e) = Unit {0}
IsNoRecover (Recv e) = Unit {0}
IsNoRecover (Crash p) = Unit {0}
IsNoRecover (Recover p concerned kept undone) = ⊥

abbrev pub HaveNoRecover : List Entry → Type 0
HaveNoRecover [] = Unit {0}
HaveNoRecover (e ∷ entries) = IsNoRecover e × HaveNoRecover entries

-- None of the entries is a Recover, and after them the cells are at home, with cleared logs.
pub record BringHome (book : BookView) (merged : List Entry) (cells : List CellView) : Type 0 where
  pub no_recover : HaveNoRecover merged
  pub home : AreHome (with_more book merged) (map without_log cells)

-- The cell's events go on with this one, after those that the book has of its role.
pub record IsAheadBy (book : BookView) (e : Event) (c : CellView) : Type 0 where
  pub setup_is : c.part.setup ≡ book.setup
  pub role_is : c.part.role ≡ e.role
  pub begins : IsPrefix (events_of e.role (state_of book).kept ++ e ∷ []) c.part.own.events

-- The cell of the event's role is there, and is ahead of the book by it.
pub record IsNextOfCell (book : BookView) (cells : List CellView) (e : Event) : Type 0 where
  pub declared : e.role < roles_of book.setup
  pub there : e.role < length cells
  pub ahead : (d : CellView) → IsAheadBy book e (cell_at cells e.role d)

-- The same of an entry's event. It says nothing of an entry without an event.
abbrev pub IsNextOfCells : BookView → List CellView → Entry → Type 0
IsNextOfCells book cells (Send e) = IsNextOfCell book cells e
IsNextOfCells book cells (Recv e) = IsNextOfCell book cells e
IsNextOfCells book cells (Crash p) = Unit {0}
IsNextOfCells book cells (Recover p concerned kept undone) = Unit {0}
