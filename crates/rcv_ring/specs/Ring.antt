-- The ring's rule, which holds between any two steps.
use Rattle.std.specs.Prelude.{◌≡◌, ℕ, ◌+◌, ◌<◌, ◌≤◌, true, List, [], ◌∷◌, length, slice_index}
use mathlib.Core.Option.{some}
use lib.ListN.{get_elem?}
use Rattle.atomic_table.specs.Table.{State}
use Rattle.rcv_tree.specs.declared.event.Message.{Message}
use Rattle.rcv_ring.specs.declared.rule.View.{View}
use Rattle.rcv_ring.specs.Lists.{Begins}
use Rattle.rcv_ring.specs.Places.{place, at_put, at_got, all_words}
use Rattle.rcv_ring.specs.Points.{CanPass}

-- The table's words, the slots with their messages, and what each seat knows.
abbrev pub Cells : Type 0
Cells = State Message View

-- The message lies in the slot of the message i; some message lies there.
abbrev pub IsAt : ℕ → Cells → ℕ → Message → Type 0
IsAt room s i m = get_elem? s.homes (place room i) ≡ some (some m)

abbrev pub IsHome : ℕ → Cells → ℕ → Type 0
IsHome room s i = (m : Message) × IsAt room s i m

-- The view of seat k is the pusher's. It knows all that was sent, and no more of what was taken than was. So many
-- slots are out with it.
pub record IsPusher (room : ℕ) (points : List ℕ) (sent taken : List Message) (filling pusher k : ℕ) (v : View) : Type 0 where
  pub seat : k ≡ pusher
  pub all : v.sent ≡ sent
  pub seen : v.seen ≤ length taken
  pub known : v.known ≤ length taken
  pub out_is : length v.out ≡ filling
  pub room_is : v.room ≡ room
  pub points_is : v.points ≡ points

-- The view of seat k is the puller's. It knows all that was taken, and no more of what was sent than was. So many slots
-- are out with it, and if one is, its message is the front one.
pub record IsPuller (room : ℕ) (points : List ℕ) (sent taken : List Message) (lifting puller k : ℕ) (v : View) : Type 0 where
  pub seat : k ≡ puller
  pub all : v.taken ≡ taken
  pub seen : v.seen ≤ length sent
  pub known : v.known ≤ length sent
  pub out_is : length v.out ≡ lifting
  pub front : (m : Message) → v.out ≡ m ∷ [] → get_elem? sent (length taken) ≡ some m
  pub room_is : v.room ≡ room
  pub points_is : v.points ≡ points

-- Who the two ends are, and how many slots are out with each: none, or one.
pub record Ends : Type 0 where
  pub pusher : ℕ
  pub puller : ℕ
  pub filling : ℕ
  pub lifting : ℕ

-- Any seat, even a note of what an end knew: what was sent and taken begins with what it was told. One seat alone may
-- push, and one alone pull.
pub record Fits (room : ℕ) (points : List ℕ) (sent taken : List Message) (ends : Ends) (k : ℕ) (v : View) : Type 0 where
  pub told_sent : Begins v.sent sent
  pub told_taken : Begins v.taken taken
  pub pushes : v.pushes ≡ true → IsPusher room points sent taken ends.filling ends.pusher k v
  pub pulls : v.pulls ≡ true → IsPuller room points sent taken ends.lifting ends.puller k v

abbrev pub AllFit : ℕ → List ℕ → List Message → List Message → Ends → List View → Type 0
AllFit room points sent taken ends views = (k : ℕ) (v : View) → get_elem? views k ≡ some v → Fits room points sent taken ends k v

-- What was taken begins what was sent, which is at most `room` longer. Each message that was sent is one that the ring
-- carries, and each between lies in its slot, except the front one if the puller has it out. The slots after what was
-- sent are free, except the first one if the pusher has it out.
pub record Ring (room : ℕ) (points : List ℕ) (s : Cells) : Type 0 where
  pub sent : List Message
  pub taken : List Message
  pub ends : Ends
  pub some_room : 0 < room
  pub size : length s.words ≡ all_words
  pub slots : length s.homes ≡ room
  pub put : slice_index s.words at_put ≡ length sent
  pub got : slice_index s.words at_got ≡ length taken
  pub begins : Begins taken sent
  pub within : length sent ≤ length taken + room
  pub cells : (i : ℕ) (m : Message) → length taken + ends.lifting ≤ i → get_elem? sent i ≡ some m → IsAt room s i m
  pub free : (i : ℕ) → length sent + ends.filling ≤ i → i < length taken + room → IsHome room s i
  pub legal : (i : ℕ) (m : Message) → get_elem? sent i ≡ some m → CanPass points m
  pub fits : AllFit room points sent taken ends s.views
