-- A restart point is met if, in some run, some failure sends a role back to just that point.
use Rattle.std.specs.Prelude.{◌≡◌, ◌≢◌, ℕ, ◌<◌, Some, List, length, slice_get}
use Rattle.rcv_tree.specs.declared.event.Event.{Event}
use Rattle.rcv_model.specs.Net.{Net}
use Rattle.rcv_model.specs.Run.{acts, IsRun}
use Rattle.rcv_model.specs.Table.{start_of}
use Rattle.rcv_model.specs.Undo.{IsUndone, SameRole, bound_of}

-- The first undone event of role q is at the point z: this event is undone, and no earlier event of q is.
pub record IsFirstUndone (net : Net) (events : List Event) (bound : ℕ → ℕ) (q z : ℕ) : Type 0 where
  pub position : ℕ
  pub event : Event
  pub stands : slice_get events position ≡ Some event
  pub role : event.role ≡ q
  pub point : event.point ≡ z
  pub undone : IsUndone net events bound position
  pub first : (i : ℕ) → i < position → SameRole events i position → IsUndone net events bound i → ⊥

-- Role p has saved only its events before its point n: its first event that it hasn't saved is at n. Each other role has
-- saved all of its events.
pub record LosesFrom (events : List Event) (saved : ℕ → ℕ) (p n : ℕ) : Type 0 where
  pub start : start_of saved events p ≡ Some n
  pub others : (r : ℕ) → r ≢ p → saved r ≡ length (acts r events)

-- There is a run after which a failure of the group takes events from p alone, from its point n on, and the first event of q
-- that is undone then is at the point z.
pub record IsMet (net : Net) (group : List ℕ) (p n q z : ℕ) : Type 0 where
  pub events : List Event
  pub saved : ℕ → ℕ
  pub run : IsRun net events
  pub loses : LosesFrom events saved p n
  pub back : IsFirstUndone net events (bound_of group saved events) q z
