-- Laws: each event is kept at the end or undone by one Recover; nothing else undoes; and in a legal journal what a role keeps is
-- what the session keeps of it.
use Rattle.std.specs.Prelude.{◌≡◌, ◌⊎◌, ◌↔◌, ℕ, ◌<◌, ◌≤◌, true, List, [], ◌∷◌, length, slice_index}
use Rattle.rcv_tree.specs.Bits.{has_bit}
use Rattle.rcv_tree.specs.declared.event.Event.{Event}
use Rattle.rcv_tree.specs.declared.entry.Entry.{Entry}
use Rattle.rcv_model.specs.Premises.{IsSession}
use Rattle.rcv_model.specs.Journal.{Rules, IsLegal, reading, events_of}
use Rattle.rcv_fates.specs.Fates.{IsEventAt, IsUndoneAt}
use Rattle.rcv_story.specs.Kept.{kept_places, left_after, IsUndoneBy, IsKeptPlace}
use Rattle.rcv_story.specs.Recoveries.{IsRecoverAt, GoesBack, Stays}

-- The event at place p is kept at the end or undone, and not both; and one Recover undoes it.
pub record HasOneFate (entries : List Entry) (p : ℕ) : Type 0 where
  pub fate : IsKeptPlace entries p ⊎ ((q : ℕ) × IsUndoneBy entries p q)
  pub apart : (q : ℕ) → IsKeptPlace entries p → IsUndoneBy entries p q → ⊥
  pub once : (q o : ℕ) → IsUndoneBy entries p q → IsUndoneBy entries p o → q ≡ o

abbrev pub EventsHaveOneFate : Type 0
EventsHaveOneFate = (entries : List Entry) (p : ℕ) (e : Event) → IsEventAt entries p e → HasOneFate entries p

-- What undoes an event is a later Recover.
abbrev pub RecoversUndo : Type 0
RecoversUndo = (entries : List Entry) (p q : ℕ) → IsUndoneBy entries p q → (p < q) × (r : ℕ) × IsRecoverAt entries q r

-- By a Recover each role goes back or stays, and not both.
abbrev pub RolesGoBackOrStay : Type 0
RolesGoBackOrStay = (entries : List Entry) (q p r : ℕ) → IsRecoverAt entries q p
    → (GoesBack entries q r ⊎ Stays entries q r) × (GoesBack entries q r → Stays entries q r → ⊥)

-- At each of these places stands the event with the same number.
abbrev pub AreEventsAt : List Entry → List ℕ → List Event → Type 0
AreEventsAt entries [] [] = Unit {0}
AreEventsAt entries [] (e ∷ events) = ⊥
AreEventsAt entries (p ∷ places) [] = ⊥
AreEventsAt entries (p ∷ places) (e ∷ events) = IsEventAt entries p e × AreEventsAt entries places events

-- A legal journal of an accepted protocol with at most eight roles.
pub record IsJournal (rules : Rules) (entries : List Entry) : Type 0 where
  pub session : IsSession rules
  pub few : rules.roles ≤ 8
  pub legal : IsLegal rules entries

-- In such a journal the events at the kept places of a role are what the session keeps of it, in order.
abbrev pub KeptPlacesAreKept : Type 0
KeptPlacesAreKept = (rules : Rules) (entries : List Entry) (r : ℕ) → IsJournal rules entries → r < 8
    → AreEventsAt entries (kept_places r entries) (events_of r (reading rules entries).kept)

-- So a concerned role keeps after a Recover as many as the Recover says.
abbrev pub RecoversKeepAsTheySay : Type 0
RecoversKeepAsTheySay = (rules : Rules) (entries : List Entry) (q p r : ℕ) (x : IsRecoverAt entries q p) → IsJournal rules entries
    → r < 8 → has_bit x.concerned.0 r ≡ true → length (left_after r entries q) ≡ slice_index x.keeps r

-- What isn't kept at the end is what some Recover undoes.
abbrev pub UndoneIsByARecover : Type 0
UndoneIsByARecover = (rules : Rules) (entries : List Entry) (p : ℕ) → IsJournal rules entries
    → IsUndoneAt (reading rules entries).kept entries p ↔ ((q : ℕ) × IsUndoneBy entries p q)
