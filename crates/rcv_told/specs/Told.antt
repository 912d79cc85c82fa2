-- Told sessions: what is remembered of roles that run elsewhere, what may be told of them, and what it leaves.
use Rattle.std.specs.Prelude.{◌≡◌, ℕ, ◌+◌, ◌-◌, ◌<◌, ◌≤◌, ◌↔◌, max, Bool, true, false, if◌then◌else◌, List, [], ◌∷◌, length, drop, replicate, Option, Some, None, slice_get, slice_index}
use Rattle.std.specs.List.{filter, range_with_len}
use Rattle.rcv_tree.specs.Bits.{has_bit, is_listed}
use Rattle.rcv_tree.specs.Numbers.{fresh}
use Rattle.rcv_tree.specs.declared.event.Event.{Event}
use Rattle.rcv_tree.specs.declared.event.Message.{Message}
use Rattle.rcv_tree.specs.declared.event.Dir.TheVariants.{Sent, Got}
use Rattle.rcv_tree.specs.declared.numbers.Numbers.{Numbers}
use Rattle.rcv_tree.specs.declared.entry.Entry.{Entry}
use Rattle.rcv_tree.specs.declared.entry.Entry.TheVariants.{Send, Recv, Crash, Recover}
use Rattle.rcv_tree.specs.declared.role.RoleSet.{RoleSet}
use Rattle.rcv_tree.specs.Events.{message_got}
use Rattle.rcv_model.specs.Net.{Net}
use Rattle.rcv_model.specs.Run.{acts, channel, place_of}
use Rattle.rcv_model.specs.Next.{IsNext}
use Rattle.rcv_model.specs.Table.{start_of, IsConcernedByAny}
use Rattle.rcv_model.specs.Undo.{keep_within}
use Rattle.rcv_model.specs.Journal.{State, numbers_at, failed, with_numbers}
use Rattle.rcv_model.specs.Journal.{after_event as state_after_event, after_recovery as state_after_recovery}

-- What a session is told by: the protocol's places, how many roles it has, and with which others each role fails.
pub record Terms : Type 0 where
  pub net : Net
  pub roles : ℕ
  pub host : ℕ → List ℕ

-- What is remembered of a told session. The first events of each role may be forgotten, except for those of its Sends whose messages were
-- in flight then.
pub record Remembered : Type 0 where
  -- the remembered events, in order
  pub held : List Event
  -- for each role, how many of these, its first, are of its forgotten ones
  pub seeds : List ℕ
  -- how many of its events are forgotten, and the point of the last of them (0: none)
  pub forgotten : List ℕ
  pub points : List ℕ
  -- its numbers, forgotten events counted
  pub roles : List Numbers

-- Before the first event.
abbrev pub nothing_told : ℕ → Remembered
nothing_told roles =
    record {
      held = [];
      seeds = replicate roles 0;
      forgotten = replicate roles 0;
      points = replicate roles 0;
      roles = replicate roles fresh;
    }

-- The remembered events and the numbers, as the state of a journal; and the memory with those of a state.
abbrev pub state_of : Remembered → State
state_of m = record { kept = m.held; roles = m.roles }

abbrev pub with_state : Remembered → State → Remembered
with_state m s = record m { held = s.kept; roles = s.roles }

-- How many of a role's events are kept, forgotten ones too; and how many are if these of the remembered ones are left.
abbrev pub made_of : Remembered → List Event → ℕ → ℕ
made_of m left r = slice_index m.forgotten r + (length (acts r left) - slice_index m.seeds r)

abbrev pub made : Remembered → ℕ → ℕ
made m r = made_of m m.held r

-- The place of a role: the point of its last kept event, or 0.
abbrev pub place : Remembered → ℕ → ℕ
place m r = place_of (slice_index m.points r) (drop (slice_index m.seeds r) (acts r m.held))

-- Whether a role with these numbers is down; none if there are no numbers.
abbrev pub down_of : Option Numbers → Option Bool
down_of None = None
down_of (Some n) = Some n.crashed

abbrev pub down_at : Remembered → ℕ → Option Bool
down_at m r = down_of (slice_get m.roles r)

-- What an event of a role is judged by: whether it is down (none: it isn't declared), its place, its clock, and what lies in
-- the channel to it from each role.
pub record Standpoint : Type 0 where
  pub down : Option Bool
  pub place : ℕ
  pub clock : ℕ
  pub lies : ℕ → List Message

abbrev pub standpoint : Net → Remembered → ℕ → Standpoint
standpoint net m r =
    record {
      down = down_at m r;
      place = place m r;
      clock = (numbers_at m.roles r).clock;
      lies = λ from. channel net from r m.held;
    }

-- A Send that may be told: the role sends it at one of its next points, and its stamp is one above the role's clock.
pub record IsSend (net : Net) (at : Standpoint) (e : Event) : Type 0 where
  pub up : at.down ≡ Some false
  pub next : IsNext net e.role at.place e.point
  pub sends : net.sender e.point ≡ e.role
  pub is_send : e.dir ≡ Sent
  pub stamp : e.stamp ≡ at.clock + 1
  pub sent : e.sent ≡ e.stamp

-- A message is in front of the channel from the sender of its point.
abbrev pub IsInFront : Net → Standpoint → Message → Type 0
IsInFront net at m = (rest : List Message) × (at.lies (net.sender m.point) ≡ m ∷ rest)

-- A Recv that may be told: the role receives it at one of its next points, and its message is in front.
pub record IsRecv (net : Net) (at : Standpoint) (e : Event) : Type 0 where
  pub up : at.down ≡ Some false
  pub next : IsNext net e.role at.place e.point
  pub receives : net.receiver e.point ≡ e.role
  pub is_recv : e.dir ≡ Got
  pub front : IsInFront net at (message_got e)
  pub stamp : e.stamp ≡ max at.clock e.sent + 1

-- Whom a failure of p takes: p itself, and the roles of its host.
abbrev pub group_of : Terms → ℕ → List ℕ
group_of terms p = p ∷ terms.host p

-- How many of the remembered events of a role are among its first so many.
abbrev pub held_of : Remembered → (ℕ → ℕ) → ℕ → ℕ
held_of m counts q = slice_index m.seeds q + (counts q - slice_index m.forgotten q)

-- How many of the remembered events each role may keep, if some roles keep at most so many of all their events.
abbrev pub bound_at : Remembered → List ℕ → (ℕ → ℕ) → ℕ → ℕ
bound_at m roles counts q = if is_listed roles q then held_of m counts q else length (acts q m.held)

-- The remembered events that are left then.
abbrev pub left_at : Net → Remembered → List ℕ → (ℕ → ℕ) → List Event
left_at net m roles counts = keep_within net (bound_at m roles counts) m.held

-- The roles of a set, ascending.
abbrev pub roles_in : RoleSet → List ℕ
roles_in set = filter (has_bit set.0) (range_with_len 0 8)

-- Whom a failure concerns, if each failed role has saved so many of its events: the failed roles, and those that depend on what one of them
-- lost.
abbrev pub IsConcernedWhere : Terms → Remembered → ℕ → (ℕ → ℕ) → ℕ → Type 0
IsConcernedWhere terms m p saved q = IsConcernedByAny terms.net (group_of terms p) (start_of (held_of m saved) m.held) q

-- What a failure of p takes back, if each failed role has saved so many of its events: whom it concerns, how many events each of these
-- keeps, and how many are undone. None of the forgotten ones may be lost.
pub record HasFailed (terms : Terms) (m : Remembered) (p : ℕ) (saved : ℕ → ℕ) (concerned : RoleSet) (kept : List ℕ) (undone : ℕ) : Type 0 where
  pub above : (q : ℕ) → is_listed (group_of terms p) q ≡ true → slice_index m.forgotten q ≤ saved q
  pub concerned_is : (q : ℕ) → q < 8 → (has_bit concerned.0 q ≡ true) ↔ IsConcernedWhere terms m p saved q
  pub eight : length kept ≡ 8
  pub counts : (q : ℕ) → q < 8
      → slice_index kept q ≡ (if has_bit concerned.0 q then made_of m (left_at terms.net m (group_of terms p) saved) q else 0)
  pub undone_is : undone + length (left_at terms.net m (group_of terms p) saved) ≡ length m.held

-- It may be told: a crash if the role is up; a recovery if the role is down, and this is what its failure takes back for some saved counts,
-- whichever they are.
abbrev pub MayBeTold : Terms → Remembered → Entry → Type 0
MayBeTold terms m (Send e) = IsSend terms.net (standpoint terms.net m e.role) e
MayBeTold terms m (Recv e) = IsRecv terms.net (standpoint terms.net m e.role) e
MayBeTold terms m (Crash p) = down_at m p ≡ Some false
MayBeTold terms m (Recover p concerned kept undone) =
    (down_at m p ≡ Some true) × ((saved : ℕ → ℕ) × HasFailed terms m p saved concerned kept undone)

-- One event more; one crash more; and a recovery of a group, with these events left. The numbers change as in a journal.
abbrev pub after_event : Remembered → Event → Remembered
after_event m e = with_state m (state_after_event (state_of m) e)

abbrev pub after_crash : Remembered → ℕ → Remembered
after_crash m p = with_state m (with_numbers (state_of m) p (failed (numbers_at m.roles p)))

abbrev pub after_recovery : Remembered → List ℕ → List ℕ → List Event → Remembered
after_recovery m group concerned left = with_state m (state_after_recovery (state_of m) group concerned left)

-- What is remembered after one more thing that was told. A recovery leaves of each concerned role as many events as it lists.
abbrev pub told_after : Terms → Remembered → Entry → Remembered
told_after terms m (Send e) = after_event m e
told_after terms m (Recv e) = after_event m e
told_after terms m (Crash p) = after_crash m p
told_after terms m (Recover p concerned kept undone) =
    after_recovery m (group_of terms p) (roles_in concerned) (left_at terms.net m (roles_in concerned) (slice_index kept))

-- After all of these.
abbrev pub told_from : Terms → Remembered → List Entry → Remembered
told_from terms m [] = m
told_from terms m (e ∷ told) = told_from terms (told_after terms m e) told

-- If nothing is ever forgotten, from the start on.
abbrev pub told : Terms → List Entry → Remembered
told terms entries = told_from terms (nothing_told terms.roles) entries

-- Each of these may be told after those before it.
abbrev pub IsToldFrom : Terms → Remembered → List Entry → Type 0
IsToldFrom terms m [] = Unit {0}
IsToldFrom terms m (e ∷ entries) = MayBeTold terms m e × IsToldFrom terms (told_after terms m e) entries

abbrev pub IsTold : Terms → List Entry → Type 0
IsTold terms entries = IsToldFrom terms (nothing_told terms.roles) entries
