-- Laws: the recovery table is tight. Each restart point that it has is met, and no other point is.
use Rattle.std.specs.Prelude.{◌≡◌, ℕ, ◌≤◌, ◌↔◌, Some, List, length, slice_get}
use Rattle.rcv_tree.specs.declared.event.Event.{Event}
use Rattle.rcv_model.specs.Net.{Net, IsIn}
use Rattle.rcv_model.specs.Next.{IsOf, IsProper, IsAccepted}
use Rattle.rcv_model.specs.Run.{Act, acts, IsQueued}
use Rattle.rcv_model.specs.Table.{IsRestart, AreRestarts, IsConcerned}
use Rattle.rcv_model.specs.Undo.{keep_within}
use Rattle.rcv_tightness.specs.Met.{IsFirstUndone, IsMet}

-- The protocol is accepted, n is a point of its role p, and p is one of the group that fails.
pub record MayFail (net : Net) (roles : ℕ) (group : List ℕ) (p n : ℕ) : Type 0 where
  pub proper : IsProper net roles
  pub accepted : IsAccepted net roles
  pub member : IsIn p group
  pub least : 1 ≤ n
  pub most : n ≤ net.count
  pub own : IsOf net p n

-- The table has z as a restart point of q, from the start n of p, exactly if that is met.
abbrev pub RestartsAreMet : Type 0
RestartsAreMet =
    (net : Net) (roles : ℕ) (group : List ℕ) (p n q z : ℕ) → MayFail net roles group p n
    → IsRestart net p n q z ↔ IsMet net group p n q z

-- So a row of the table lists exactly the points that are met.
abbrev pub RowsAreMet : Type 0
RowsAreMet =
    (net : Net) (roles : ℕ) (group : List ℕ) (p n q : ℕ) (zs : List ℕ) → MayFail net roles group p n → AreRestarts net p n q zs
    → (z : ℕ) → IsIn z zs ↔ IsMet net group p n q z

-- And each role that the table has concerned loses an event in some run, and no other role ever does.
abbrev pub ConcernedDoLose : Type 0
ConcernedDoLose =
    (net : Net) (roles : ℕ) (group : List ℕ) (p n q : ℕ) → MayFail net roles group p n
    → IsConcerned net p n q ↔ ((z : ℕ) × IsMet net group p n q z)

-- The first act of the role after those that it keeps is at this point.
abbrev pub IsNextAfterKept : Net → List Event → (ℕ → ℕ) → ℕ → ℕ → Type 0
IsNextAfterKept net events bound q z =
    (own : Act) × (slice_get (acts q events) (length (acts q (keep_within net bound events))) ≡ Some own) × (own.point ≡ z)

-- The first undone event of a role is the first one after those that a recovery keeps.
abbrev pub FirstUndoneIsNext : Type 0
FirstUndoneIsNext =
    (net : Net) (events : List Event) (bound : ℕ → ℕ) (q z : ℕ) → IsQueued net events
    → IsFirstUndone net events bound q z ↔ IsNextAfterKept net events bound q z
