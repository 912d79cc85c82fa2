-- What the cells of a session have forgotten: no state that a recovery can ask for.
use Rattle.std.specs.Prelude.{◌≡◌, ℕ, ◌*◌, ◌≤◌, List, slice_index}
use Rattle.rcv_model.specs.StableLine.{IsStable}
use Rattle.rcv_session.specs.Session.{roles_of, net_for, rules_of}
use Rattle.rcv_core.specs.Book.{BookView, state_of}
use Rattle.rcv_role.specs.Part.{durable_of, from_base}
use Rattle.rcv_role.specs.Cell.{CellView, cell_of}
use Rattle.rcv_cells.specs.Home.{HaveBases, HasGrown}

-- Each recovery that may come to this book keeps at least so many events of each role, at which it has saved a state.
abbrev pub IsStableIn : BookView → List ℕ → Type 0
IsStableIn book line = IsStable (net_for book.setup) (rules_of book.setup).every (state_of book).kept (slice_index line)

-- They were such counts before the last entries were added.
pub record WasStable (book : BookView) (line : List ℕ) : Type 0 where
  pub before : BookView
  pub grown : HasGrown before book
  pub stable : IsStableIn before line

-- The cells have forgotten the states before such counts, and no others.
pub record AreBased (book : BookView) (cells : List CellView) : Type 0 where
  pub line : List ℕ
  pub stable : IsStableIn book line
  pub bases : HaveBases (roles_of book.setup) line cells

-- The cell can forget the states that are older than the one after so many events: it has saved that one.
pub record CanForget (line : ℕ) (c : CellView) : Type 0 where
  pub step : (k : ℕ) × (k * (rules_of c.part.setup).every c.part.role ≡ line)
  pub above : c.part.base ≤ line
  pub saved : line ≤ durable_of c.part

-- The cell without them.
abbrev pub without_states : CellView → ℕ → CellView
without_states c line = cell_of (from_base c.part line) c.posts c.inboxes
