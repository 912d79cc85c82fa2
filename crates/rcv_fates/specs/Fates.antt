-- What became of the events of a journal: which are kept at its end, and which messages were received.
use Rattle.std.specs.Prelude.{◌≡◌, ◌⊎◌, ℕ, ◌<◌, List, [], ◌∷◌, Some, slice_get}
use Rattle.rcv_tree.specs.declared.event.Event.{Event}
use Rattle.rcv_tree.specs.declared.entry.Entry.{Entry}
use Rattle.rcv_tree.specs.declared.entry.Entry.TheVariants.{Send, Recv, Crash, Recover}
use Rattle.rcv_model.specs.Net.{Net}
use Rattle.rcv_model.specs.Journal.{Rules, reading}
use Rattle.rcv_fates.specs.declared.arrow.Arrow.{Arrow}

-- The event is an element of the list.
abbrev pub IsAmong : Event → List Event → Type 0
IsAmong e [] = ⊥
IsAmong e (x ∷ xs) = (e ≡ x) ⊎ IsAmong e xs

-- The event is kept after these entries: no Recover among them undoes it.
abbrev pub IsKeptIn : Rules → List Entry → Event → Type 0
IsKeptIn rules entries e = IsAmong e (reading rules entries).kept

-- The entry is a Send or Recv of an event that isn't among the kept ones.
abbrev pub IsUndone : List Event → Entry → Type 0
IsUndone kept (Send event) = IsAmong event kept → ⊥
IsUndone kept (Recv event) = IsAmong event kept → ⊥
IsUndone kept (Crash role) = ⊥
IsUndone kept (Recover role concerned keeps removed) = ⊥

-- So is the entry at this place, from 0.
pub record IsUndoneAt (kept : List Event) (entries : List Entry) (place : ℕ) : Type 0 where
  pub entry : Entry
  pub there : slice_get entries place ≡ Some entry
  pub undone : IsUndone kept entry

-- At this place, from 0, stands the Send or the Recv with this event.
abbrev pub IsEventAt : List Entry → ℕ → Event → Type 0
IsEventAt entries i e = (slice_get entries i ≡ Some (Send e)) ⊎ (slice_get entries i ≡ Some (Recv e))

-- A message that was received: at place s stands its Send, by the sender of its point, and at place t a Recv that names
-- the Send's stamp.
pub record IsMessage (net : Net) (entries : List Entry) (s t : ℕ) : Type 0 where
  pub sent : Event
  pub got : Event
  pub send_at : slice_get entries s ≡ Some (Send sent)
  pub recv_at : slice_get entries t ≡ Some (Recv got)
  pub sender : sent.role ≡ net.sender got.point
  pub stamp : sent.stamp ≡ got.sent

-- An arrow from place s to place t.
abbrev pub arrow : ℕ → ℕ → Arrow
arrow s t = record { send = s; receive = t }

-- The arrows are exactly the messages that were received, each once, in the order of their Recvs.
pub record AreArrows (net : Net) (entries : List Entry) (arrows : List Arrow) : Type 0 where
  pub sound : (i : ℕ) (a : Arrow) → slice_get arrows i ≡ Some a → IsMessage net entries a.send a.receive
  pub complete : (s t : ℕ) → IsMessage net entries s t → (i : ℕ) × (slice_get arrows i ≡ Some (arrow s t))
  pub ascending : (i j : ℕ) (a b : Arrow) → i < j → slice_get arrows i ≡ Some a → slice_get arrows j ≡ Some b
      → a.receive < b.receive
