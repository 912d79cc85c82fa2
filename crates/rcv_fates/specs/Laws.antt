-- Laws: stamps grow, so an event stands at one place; kept events stand among the entries; each Recv has one Send.
use Rattle.std.specs.Prelude.{◌≡◌, ℕ, ◌<◌, List, Some, slice_get}
use Rattle.rcv_tree.specs.declared.event.Event.{Event}
use Rattle.rcv_tree.specs.declared.entry.Entry.{Entry}
use Rattle.rcv_tree.specs.declared.entry.Entry.TheVariants.{Recv}
use Rattle.rcv_model.specs.Net.{Net}
use Rattle.rcv_model.specs.Journal.{Rules, IsLegal}
use Rattle.rcv_fates.specs.Fates.{IsKeptIn, IsEventAt, IsMessage}

-- The stamps of one role's events grow along a legal journal, even those of undone events.
abbrev pub StampsGrow : Type 0
StampsGrow =
    (rules : Rules) (journal : List Entry) (i j : ℕ) (d e : Event) → IsLegal rules journal → i < j
    → IsEventAt journal i d → IsEventAt journal j e → d.role ≡ e.role → d.stamp < e.stamp

-- So an event stands at one place.
abbrev pub EventsStandOnce : Type 0
EventsStandOnce =
    (rules : Rules) (journal : List Entry) (i j : ℕ) (e : Event) → IsLegal rules journal → IsEventAt journal i e
    → IsEventAt journal j e → i ≡ j

-- Each kept event is the event of an entry.
abbrev pub KeptEventsStand : Type 0
KeptEventsStand =
    (rules : Rules) (journal : List Entry) (e : Event) → IsKeptIn rules journal e → (i : ℕ) × IsEventAt journal i e

-- The Recv at place t, of this event, has one Send: it stands before the Recv, with the same point and value.
pub record HasOneSend (net : Net) (entries : List Entry) (t : ℕ) (got : Event) : Type 0 where
  pub s : ℕ
  pub message : IsMessage net entries s t
  pub before : s < t
  pub point : message.sent.point ≡ got.point
  pub value : message.sent.value ≡ got.value
  pub only : (other : ℕ) → IsMessage net entries other t → other ≡ s

-- In a legal journal each Recv has one Send, even a Recv that receives a message again.
abbrev pub EachRecvHasOneSend : Type 0
EachRecvHasOneSend =
    (rules : Rules) (journal : List Entry) (t : ℕ) (got : Event) → IsLegal rules journal
    → slice_get journal t ≡ Some (Recv got) → HasOneSend rules.net journal t got
