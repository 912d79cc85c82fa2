-- What contracts see of a session, and what it keeps.
use Rattle.std.specs.Prelude.{◌≡◌, ℕ, ◌≤◌, Bool, false, List, [], ◌∷◌, length}
use Rattle.rcv_model.specs.Journal.{start}
use Rattle.rcv_session.specs.Session.{SessionView, roles_of, rules_of}
use Rattle.rcv_core.specs.declared.skip.Skip.{Skip}
use Rattle.rcv_core.specs.Book.{BookView, IsAtEnd}
use Rattle.rcv_core.specs.Skips.{IsSkip}
use Rattle.rcv_fence.specs.Shown.{Shown}
use Rattle.rcv_role.specs.Cell.{CellView}
use Rattle.rcv_cells.specs.Home.{AreHome, HaveBases}
use Rattle.rcv_cells.specs.Running.{AreWatched}
use Rattle.rcv_super.specs.Bases.{IsStableIn}
use Rattle.rcv_super.specs.declared.whereabouts.Whereabouts.{Whereabouts}
use Rattle.rcv_super.specs.declared.whereabouts.Whereabouts.TheVariants.{Before, Home, Over}
use Rattle.rcv_alone.specs.Steps.{AreSteps}

-- Its book, whether it was closed because memory ran out, how many turns added entries, and the stable line that was found last.
pub record SuperView : Type 0 where
  pub book : BookView
  pub closed : Bool
  pub turns : ℕ
  pub stable : List ℕ

-- A line that nobody has come over.
abbrev pub first_line : List ℕ
first_line = 0 ∷ 0 ∷ 0 ∷ 0 ∷ 0 ∷ 0 ∷ 0 ∷ 0 ∷ []

-- The session of this setup before its first entry.
abbrev pub new_session : SessionView → SuperView
new_session setup =
    record { book = record { setup = setup; entries = [] }; closed = false; turns = 0; stable = first_line }

-- The book has gone on alone, by the steps of one thread, and the cells are at home before the first of them. They have
-- forgotten nothing.
pub record IsAlone (book : BookView) (cells : List CellView) : Type 0 where
  pub steps : AreSteps (rules_of book.setup) (start (roles_of book.setup)) book.entries
  pub cells_are : AreHome (record { setup = book.setup; entries = [] }) cells
  pub bases : HaveBases (roles_of book.setup) [] cells

-- The book has gone on alone; or the cells are at home with it, and have forgotten the states before the line; or it is
-- at its end, and nothing is said of them.
abbrev pub Stands : Whereabouts → BookView → List ℕ → List CellView → Type 0
Stands Before book line cells = IsAlone book cells
Stands Home book line cells = AreHome book cells × HaveBases (roles_of book.setup) line cells
Stands Over book line cells = IsAtEnd book

-- Each of eight workers has a watch of the fence that this watch is of.
abbrev pub HasWatches : Shown → List Shown → Type 0
HasWatches watch watches = AreWatched watch watches × (length watches ≡ 8)

-- An open session: where its cells stand, all under one fence, and what is known of its book's next step. The line is
-- stable, so that each later recovery finds the states that it goes back to; and each turn added an entry.
pub record IsOpen (book : BookView) (cells : List CellView) (watch : Shown) (watches : List Shown) (at : Whereabouts)
    (skip : Skip) (turns : ℕ) (line : List ℕ) : Type 0 where
  pub stands : Stands at book line cells
  pub watched : HasWatches watch watches
  pub skip_is : IsSkip book skip
  pub stable : IsStableIn book line
  pub few : turns ≤ length book.entries

-- A session that isn't closed is such a one.
abbrev pub IsSuper : BookView → List CellView → Shown → List Shown → (closed : Bool) → Whereabouts → Skip → (turns : ℕ)
    → List ℕ → Type 0
IsSuper book cells watch watches closed at skip turns line =
    closed ≡ false → IsOpen book cells watch watches at skip turns line
