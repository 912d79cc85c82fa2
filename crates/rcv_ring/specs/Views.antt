-- What each step does to the view of its seat, and what it tells.
use Rattle.std.specs.Prelude.{◌≡◌, ℕ, ◌+◌, ◌<◌, ◌≤◌, true, false, List, [], ◌∷◌, ◌++◌, map, length}
use Rattle.atomic_table.specs.Table.{Me, Step, rest}
use Rattle.rcv_tree.specs.declared.event.Message.{Message}
use Rattle.rcv_ring.specs.declared.rule.View.{View}
use Rattle.rcv_ring.specs.Lists.{Begins}
use Rattle.rcv_ring.specs.Places.{place}
use Rattle.rcv_ring.specs.Points.{CanPass}

-- What one seat knows, and the slots that are out with it.
abbrev pub Mine : Type 0
Mine = Me Message View

abbrev pub Pushing : View → Type 0
Pushing v = (v.pushes ≡ true) × (v.pulls ≡ false)

abbrev pub Pulling : View → Type 0
Pulling v = (v.pushes ≡ false) × (v.pulls ≡ true)

-- The first seat of a new ring, which has both ends; and a seat that is used up.
abbrev pub newcomer : ℕ → List ℕ → View
newcomer room points =
    record {
      pushes = true;
      pulls = true;
      sent = [];
      taken = [];
      out = [];
      seen = 0;
      known = 0;
      looks = 0;
      room = room;
      points = points;
    }

abbrev pub spent : View
spent =
    record {
      pushes = false;
      pulls = false;
      sent = [];
      taken = [];
      out = [];
      seen = 0;
      known = 0;
      looks = 0;
      room = 0;
      points = [];
    }

-- By what it has seen, the pusher may fill the slot after what was sent, and the puller may read the front one.
abbrev pub MayFill : View → Type 0
MayFill v = length v.sent < v.seen + v.room

abbrev pub MayRead : View → Type 0
MayRead v = length v.taken < v.seen

-- The slot that is filled next, and the one that is read next.
abbrev pub fill_place : View → ℕ
fill_place v = place v.room (length v.sent)

abbrev pub read_place : View → ℕ
read_place v = place v.room (length v.taken)

-- Splitting and joining seats: the first one becomes the two ends; a note has what its end knows, and may do nothing.
abbrev pub pusher_of : View → View
pusher_of v = record v { pulls = false }

abbrev pub puller_of : View → View
puller_of v = record v { pushes = false }

abbrev pub note_of : View → View
note_of v = record v { pushes = false; pulls = false }

abbrev pub heard_taken : View → View → View
heard_taken v note = record v { taken = note.taken; known = length note.taken }

abbrev pub heard_sent : View → View → View
heard_sent v note = record v { sent = note.sent; known = length note.sent }

-- A slot is out, with this message; messages are sent, or the one that is out is taken, and no slot is out any more;
-- the other end's count was looked at.
abbrev pub holding : View → Message → View
holding v m = record v { out = m ∷ [] }

abbrev pub published : View → List Message → View
published v ms = record v { sent = v.sent ++ ms; out = [] }

abbrev pub released : View → View
released v = record v { taken = v.taken ++ v.out; out = [] }

abbrev pub looked : View → ℕ → View
looked v n = record v { seen = n; known = n; looks = v.looks + 1 }

-- The messages in the slots that are out with a seat.
abbrev pub carried : List (ℕ × Message) → List Message
carried slots = map (λ slot. slot.1) slots

-- The slot after what was sent is out, whatever it holds; it is given back, and what it holds now is sent.
abbrev pub Claimed : Step Message → Mine → ℕ → Mine → Type 0
Claimed st m n m' = (old : Message) × (m'.0 ≡ holding m.0 old) × (m'.1 ≡ (fill_place m.0, old) ∷ m.1)

abbrev pub Published : Step Message → Mine → ℕ → Mine → Type 0
Published st m n m' = (m'.0 ≡ published m.0 (carried m.1)) × (m'.1 ≡ rest m.1)

-- The front slot is out, with a message that the ring carries; it is given back, and the message is taken.
abbrev pub Lifted : Step Message → Mine → ℕ → Mine → Type 0
Lifted st m n m' = (front : Message) × (m'.0 ≡ holding m.0 front) × (m'.1 ≡ (read_place m.0, front) ∷ m.1) × CanPass m.0.points front

abbrev pub Released : Step Message → Mine → ℕ → Mine → Type 0
Released st m n m' = (m'.0 ≡ released m.0) × (m'.1 ≡ rest m.1)

-- So many messages had been taken: no fewer than were known of, none that wasn't sent, and all but `room` of those that
-- were. What is known to be taken begins what was sent.
abbrev pub SawGot : Step Message → Mine → ℕ → Mine → Type 0
SawGot st m n m' =
    (m'.0 ≡ looked m.0 n)
    × (m'.1 ≡ m.1)
    × (m.0.known ≤ n)
    × (n ≤ length m.0.sent)
    × (length m.0.sent ≤ n + m.0.room)
    × Begins m.0.taken m.0.sent

-- So many messages had been sent: no fewer than were known of or taken, and at most `room` more than those.
abbrev pub SawPut : Step Message → Mine → ℕ → Mine → Type 0
SawPut st m n m' =
    (m'.0 ≡ looked m.0 n)
    × (m'.1 ≡ m.1)
    × (m.0.known ≤ n)
    × (length m.0.taken ≤ n)
    × (n ≤ length m.0.taken + m.0.room)

-- What an end of the ring keeps at hand of its view, between two messages.
pub record IsPushEnd (v : View) (put seen room : ℕ) : Type 0 where
  pub pushing : Pushing v
  pub between : v.out ≡ []
  pub put_is : put ≡ length v.sent
  pub seen_is : seen ≡ v.seen
  pub seen_few : seen ≤ put
  pub room_is : room ≡ v.room
  pub room_fits : room ≤ 1024

pub record IsPullEnd (v : View) (got seen room : ℕ) : Type 0 where
  pub pulling : Pulling v
  pub between : v.out ≡ []
  pub got_is : got ≡ length v.taken
  pub seen_is : seen ≡ v.seen
  pub room_is : room ≡ v.room
  pub room_fits : room ≤ 1024
