-- The heads of the columns: the name of each role, and its host.
use Rattle.std.specs.Prelude.{◌≡◌, ℕ, ◌+◌, List, [], ◌∷◌, ◌++◌, codes}
use Rattle.rcv_model.specs.Plan.{host_in}
use Rattle.rcv_session.specs.Session.{SessionView, roles_of}
use Rattle.rcv_journal.specs.JournalText.{name_of}
use Rattle.rcv_picture.specs.declared.pixels.Pixels.{Pixels}
use Rattle.rcv_picture.specs.declared.pixels.At.{At}
use Rattle.rcv_picture.specs.declared.look.Look.TheVariants as looks
use Rattle.rcv_picture.specs.declared.shape.Anchor.TheVariants.{Middle}
use Rattle.rcv_picture.specs.declared.group.Group.{Group}
use Rattle.rcv_scene.specs.Seen.{Seen, Frame, Words, seen, at, further, back}
use Rattle.rcv_scene.specs.Grid.{Grid, column}

-- These lines, one under another in a column, put together are this name. The first stands so high, and one more would stand so low.
pub data AreLines (x top : Pixels) : List ℕ → Pixels → List Seen → Type 0 where
  NoLine : AreLines x top [] top []
  NextLine : (y next : Pixels) (name more line : List ℕ) (before all : List Seen) → AreLines x top name y before → more ≡ name ++ line
      → next ≡ further y 15 → all ≡ before ++ Words (at x y) Middle looks.Head line ∷ [] → AreLines x top more next all

-- What stands under a name that ends so low: nothing if no host holds the role, else `on`, and the name of a host.
pub data IsHost (setup : SessionView) (role : ℕ) (x under : Pixels) (drawn : List Seen) : Type 0 where
  no_host : host_in setup.plan role ≡ [] → drawn ≡ [] → IsHost setup role x under drawn
  on_host : (host : List ℕ) → drawn ≡ Words (at x (back under 3)) Middle looks.Note (codes "on " ++ host) ∷ [] → IsHost setup role x under drawn

-- Something more was drawn: the lines of a name; the name of a host there; and what stands under a role's name.
pub record AddsLines (x top : Pixels) (name : List ℕ) (under : Pixels) (old new : List Seen) : Type 0 where
  pub lines : List Seen
  pub is : new ≡ old ++ lines
  pub right : AreLines x top name under lines

pub record AddsHostName (place : At) (old new : List Seen) : Type 0 where
  pub host : List ℕ
  pub is : new ≡ old ++ Words place Middle looks.Note (codes "on " ++ host) ∷ []

pub record AddsHost (setup : SessionView) (role : ℕ) (x under : Pixels) (old new : List Seen) : Type 0 where
  pub host : List Seen
  pub is : new ≡ old ++ host
  pub right : IsHost setup role x under host

-- Something more was drawn: a box, and in it the name of a role, whose first line stands so high, and its host.
pub record AddsHead (setup : SessionView) (grid : Grid) (top : Pixels) (role : ℕ) (old new : List Seen) : Type 0 where
  pub corner : At
  pub width : Pixels
  pub height : Pixels
  pub round : Pixels
  pub under : Pixels
  pub lines : List Seen
  pub host : List Seen
  pub named : AreLines (column grid role) top (name_of setup role) under lines
  pub hosted : IsHost setup role (column grid role) under host
  pub is : new ≡ old ++ (Frame corner width height round looks.Box ∷ lines ++ host)

-- The title, and then the heads of the first so many roles, all equally high.
pub data AreHeads (setup : SessionView) (grid : Grid) (top : Pixels) : ℕ → List Seen → Type 0 where
  Title : (title : Seen) → AreHeads setup grid top 0 (title ∷ [])
  NextHead : (role next : ℕ) (before all : List Seen) → AreHeads setup grid top role before → AddsHead setup grid top role before all
      → next ≡ role + 1 → AreHeads setup grid top next all

-- One of the groups holds the heads of all roles.
pub record HasHeads (setup : SessionView) (grid : Grid) (groups : List Group) : Type 0 where
  pub top : Pixels
  pub before : List Group
  pub after : List Group
  pub group : Group
  pub is : groups ≡ before ++ group ∷ after
  pub right : AreHeads setup grid top (roles_of setup) (seen group.shapes.items)
