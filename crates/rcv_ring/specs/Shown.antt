-- What contracts see of an end of a ring.
use Rattle.std.specs.Prelude.{◌≡◌, ℕ, ◌+◌, ◌<◌, ◌≤◌, List, [], ◌∷◌, ◌++◌, length}
use Rattle.atomic_table.specs.Seated.{TableId}
use Rattle.rcv_tree.specs.declared.event.Message.{Message}
use Rattle.rcv_ring.specs.declared.rule.View.{View}

-- which ring it is
abbrev pub RingId : Type 0
RingId = TableId

-- The end's ring, with its room and its points. What was sent and what was taken: all of the end's own doing, and of the
-- other end's what it was told. The count of the other end's messages that its last look found, the count that it knows
-- of, and how often it looked.
pub record Shown : Type 0 where
  pub ring : RingId
  pub room : ℕ
  pub points : List ℕ
  pub sent : List Message
  pub taken : List Message
  pub seen : ℕ
  pub known : ℕ
  pub looks : ℕ

abbrev pub shown : TableId → View → Shown
shown id v =
    record {
      ring = id;
      room = v.room;
      points = v.points;
      sent = v.sent;
      taken = v.taken;
      seen = v.seen;
      known = v.known;
      looks = v.looks;
    }

-- An end of a new ring.
abbrev pub fresh : RingId → ℕ → List ℕ → Shown
fresh id room points =
    record { ring = id; room = room; points = points; sent = []; taken = []; seen = 0; known = 0; looks = 0 }

-- How many messages were ever sent.
abbrev pub through : Shown → ℕ
through e = length e.sent

-- An end keeps its ring, its room and its points.
abbrev pub IsSameEnd : Shown → Shown → Type 0
IsSameEnd old new = (new.ring ≡ old.ring) × (new.room ≡ old.room) × (new.points ≡ old.points)

-- Neither the looks nor what is known of the other end become fewer.
abbrev pub HasLooked : Shown → Shown → Type 0
HasLooked old new = (old.looks ≤ new.looks) × (old.known ≤ new.known)

-- The end has looked once, and what it found is no less than what it knew before.
abbrev pub LooksOnce : Shown → Shown → Type 0
LooksOnce old new = (new.looks ≡ old.looks + 1) × (old.known ≤ new.seen)

-- By what the end has seen, a message more fits; a message is there to be taken.
abbrev pub HasRoom : Shown → Type 0
HasRoom e = length e.sent < e.seen + e.room

abbrev pub HasMore : Shown → Type 0
HasMore e = length e.taken < e.seen

-- A look of this call found so few taken that `room` messages lay in the ring; or so few sent that none did.
abbrev pub WasFull : Shown → Shown → Type 0
WasFull old new = LooksOnce old new × (length new.sent ≡ new.seen + new.room)

abbrev pub WasEmpty : Shown → Shown → Type 0
WasEmpty old new = LooksOnce old new × (length new.taken ≡ new.seen)

abbrev pub with_sent : Shown → Message → Shown
with_sent e m = record e { sent = e.sent ++ m ∷ [] }

abbrev pub with_taken : Shown → Message → Shown
with_taken e m = record e { taken = e.taken ++ m ∷ [] }
