-- A journal that is drawn, as contracts see it: whoever judged it, and whether or not its scripts were asked.
use Rattle.std.specs.Prelude.{◌≡◌, ◌↔◌, ℕ, ◌<◌, ◌^◌, Bool, true, List, length, Some, slice_get}
use Rattle.rcv_tree.specs.declared.event.Event.{Event}
use Rattle.rcv_tree.specs.declared.entry.Entry.{Entry}
use Rattle.rcv_tree.specs.declared.entry.Entry.TheVariants.{Recv}
use Rattle.rcv_accept.specs.Accepted.{IsAcceptedProtocol}
use Rattle.rcv_session.specs.Session.{SessionView, net_for}
use Rattle.rcv_core.specs.Book.{BookView}
use Rattle.rcv_journal.specs.JournalText.{IsNamed}
use Rattle.rcv_fates.specs.Fates.{IsEventAt, IsUndoneAt}
use Rattle.rcv_fates.specs.Laws.{HasOneSend}

-- The session, the entries, and for each of them whether its event is undone at the end.
pub record RecordView : Type 0 where
  pub setup : SessionView
  pub entries : List Entry
  pub undone : List Bool

-- The same without the marks.
abbrev pub journal_of : RecordView → BookView
journal_of r = record { setup = r.setup; entries = r.entries }

-- What a picture needs of entries: there are few; each names what the protocol declares; the stamps of one role's events
-- grow along them; and each Recv has one Send.
pub record IsSound (setup : SessionView) (entries : List Entry) : Type 0 where
  pub accepted : IsAcceptedProtocol setup.protocol
  pub few : length entries < 2 ^ 32
  pub named : (place : ℕ) (e : Entry) → slice_get entries place ≡ Some e → IsNamed setup e
  pub grow : (i j : ℕ) (d e : Event) → i < j → IsEventAt entries i d → IsEventAt entries j e → d.role ≡ e.role
      → d.stamp < e.stamp
  pub sent : (t : ℕ) (got : Event) → slice_get entries t ≡ Some (Recv got) → HasOneSend (net_for setup) entries t got

-- The place is marked as undone.
abbrev pub IsMarkedUndone : RecordView → ℕ → Type 0
IsMarkedUndone r place = slice_get r.undone place ≡ Some true

-- The undone entries are those whose events aren't among these, which are kept at the end.
abbrev pub HasKept : RecordView → List Event → Type 0
HasKept r kept = (place : ℕ) → IsMarkedUndone r place ↔ IsUndoneAt kept r.entries place

-- The entries are sound, and some events are those that are kept.
pub record IsRecord (r : RecordView) : Type 0 where
  pub sound : IsSound r.setup r.entries
  pub kept : List Event
  pub has : HasKept r kept
