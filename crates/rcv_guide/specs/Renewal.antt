-- What stays of the logs if the first events of each role are forgotten, and the ledger that holds it.
use Rattle.std.specs.Prelude.{◌≡◌, ℕ, ℤ, ◌+◌, ◌-◌, ◌<◌, ◌≤◌, ◌^◌, zero, suc, Bool, ◌==◌, if◌then◌else◌, nat_le, Option, Some, None, List, [], ◌∷◌, ◌++◌, length, take, slice_get, slice_index}
use Rattle.std.specs.List.{sum_by, range_with_len}
use Rattle.rcv_tree.specs.declared.event.Event.{Event}
use Rattle.rcv_tree.specs.declared.event.Dir.{Dir}
use Rattle.rcv_tree.specs.declared.event.Dir.TheVariants.{Sent, Got}
use Rattle.rcv_model.specs.Net.{Net, IsPrefix}
use Rattle.rcv_model.specs.Run.{is_sent, put, taken, IsQueued}
use Rattle.rcv_model.specs.Journal.{events_of}
use Rattle.rcv_depend.specs.Logs.{between, AreSound}
use Rattle.rcv_ledger.specs.Logs.{log_at}
use Rattle.rcv_ledger.specs.Ledger.{LedgerView, stack_at, behind_event, with_send, with_recv, HasRoom, HasRoomToSend, HoldsKept}
use Rattle.rcv_depend.specs.Cuts.{put_within, taken_within}
use Rattle.rcv_guide.specs.declared.numbers.Numbers.{Numbers}
use Rattle.rcv_guide.specs.declared.renewal.Front.{Front}
use Rattle.rcv_guide.specs.Numbers.{numbers_at}
use Rattle.rcv_tree.specs.Events.{point_or_none}
use Rattle.rcv_guide.specs.Failing.{all_events}
use Rattle.rcv_guide.specs.Guide.{no_vars}

-- The logs of some events in an order in which each Send stands before its Recv: by their stamps.
pub record AreOrdered (net : Net) (logs : List (List Event)) : Type 0 where
  pub few : length logs ≤ 8
  pub sound : AreSound net logs
  pub small : all_events logs < 2 ^ 31
  pub queued : (a b : ℕ) → IsPrefix (taken net a b (log_at logs b)) (put net a b (log_at logs a))
  pub grow : (r i j : ℕ) (e f : Event) → i < j → slice_get (log_at logs r) i ≡ Some e → slice_get (log_at logs r) j ≡ Some f
      → e.stamp < f.stamp
  pub after : (r i : ℕ) (e : Event) → slice_get (log_at logs r) i ≡ Some e → e.dir ≡ Got → e.sent < e.stamp

-- So many of each role's logged events, its first, are forgotten afterwards: those of before, and so many more.
pub record AreEnds (numbers : List Numbers) (counts ends : List ℕ) : Type 0 where
  pub eight : length ends ≡ 8
  pub each : (r : ℕ) → r < length numbers → slice_index ends r ≡ (numbers_at numbers r).seeds + slice_index counts r

-- They may be forgotten: there are so many, and nothing is received among them that isn't sent among them.
pub record MayEnd (net : Net) (logs : List (List Event)) (ends : List ℕ) : Type 0 where
  pub eight : length ends ≡ 8
  pub made : (r : ℕ) → r < length logs → slice_index ends r ≤ length (log_at logs r)
  pub closed : (a b : ℕ) → a < length logs → b < length logs → taken_within net logs ends a b ≤ put_within net logs ends a b

-- How many messages each role received on each channel among its forgotten events.
pub record AreReceived (net : Net) (logs : List (List Event)) (ends received : List ℕ) : Type 0 where
  pub all : length received ≡ 64
  pub each : (a b : ℕ) → a < 8 → b < 8 → slice_index received (between a b) ≡ taken_within net logs ends a b

-- A Send stays if its message isn't received among the receiver's forgotten events. A Recv stays if it isn't forgotten.
-- So many messages on each of the role's channels are received so, and so many were put there before the event; it has this place.
abbrev pub stays : Net → (ℕ → ℕ) → (ℕ → ℕ) → ℕ → ℕ → Event → Bool
stays net received sent end place e =
    if is_sent e.dir then nat_le (received (net.receiver e.point)) (sent (net.receiver e.point)) else nat_le end place

-- The event of role r at a place of its log stays.
abbrev pub stays_at : Net → List (List Event) → List ℕ → ℕ → ℕ → Event → Bool
stays_at net logs ends r place e =
    stays net (λ b. taken_within net logs ends r b) (λ b. length (put net r b (take place (log_at logs r)))) (slice_index ends r) place e

abbrev pub one_staying : Net → List (List Event) → List ℕ → ℕ → ℕ → Option Event → List Event
one_staying net logs ends r place None = []
one_staying net logs ends r place (Some e) = if stays_at net logs ends r place e then e ∷ [] else []

-- Those of the first so many events of role r that stay.
abbrev pub staying : Net → List (List Event) → List ℕ → ℕ → ℕ → List Event
staying net logs ends r zero = []
staying net logs ends r (suc n) =
    staying net logs ends r n ++ one_staying net logs ends r n (slice_get (log_at logs r) n)

-- So many of the first events of each role are gone over. They put so many messages on each channel, and took no more.
pub record ArePassed (net : Net) (logs : List (List Event)) (counts sent : List ℕ) : Type 0 where
  pub eight : length counts ≡ 8
  pub all : length sent ≡ 64
  pub within : (r : ℕ) → r < length logs → slice_index counts r ≤ length (log_at logs r)
  pub others : (r : ℕ) → length logs ≤ r → slice_index counts r ≡ 0
  pub sent_is : (a b : ℕ) → a < 8 → b < 8 → slice_index sent (between a b) ≡ put_within net logs counts a b
  pub even : (a b : ℕ) → taken_within net logs counts a b ≤ put_within net logs counts a b

-- How many events are left to go over.
abbrev pub left_in : List (List Event) → List ℕ → ℕ
left_in logs counts = sum_by (λ r. length (log_at logs r) - slice_index counts r) (range_with_len 0 (length logs))

-- None is left of the first n roles.
abbrev pub AreAllPassed : List (List Event) → List ℕ → ℕ → Type 0
AreAllPassed logs counts n = (r : ℕ) → r < n → length (log_at logs r) ≤ slice_index counts r

-- Among the next events of the first n roles, this role's has the least stamp.
pub record IsLeast (logs : List (List Event)) (counts : List ℕ) (n : ℕ) (front : Front) : Type 0 where
  pub role : front.role < n
  pub event : Event
  pub there : slice_get (log_at logs front.role) (slice_index counts front.role) ≡ Some event
  pub stamp : event.stamp ≡ front.stamp
  pub least : (q : ℕ) (f : Event) → q < n → slice_get (log_at logs q) (slice_index counts q) ≡ Some f → front.stamp ≤ f.stamp

-- Role r's next event may be gone over: if it is a Recv, those that are gone over put its message on its channel.
pub record IsNextEvent (net : Net) (logs : List (List Event)) (counts : List ℕ) (r : ℕ) : Type 0 where
  pub role : r < length logs
  pub event : Event
  pub there : slice_get (log_at logs r) (slice_index counts r) ≡ Some event
  pub waits : event.dir ≡ Got → length (taken net (net.sender event.point) r (take (slice_index counts r) (log_at logs r)))
      < put_within net logs counts (net.sender event.point) r

-- The ledger with one event more, after which its role has these variables.
abbrev pub with_one : Net → LedgerView → Event → List ℤ → LedgerView
with_one net ledger e vars =
    if is_sent e.dir then with_send ledger e (net.receiver e.point) (behind_event e vars)
    else with_recv ledger e (net.sender e.point) (behind_event e vars)

-- There is room for it.
abbrev pub HasRoomToAdd : Net → LedgerView → Event → Dir → Type 0
HasRoomToAdd net ledger e Sent = HasRoomToSend ledger e.role (net.receiver e.point)
HasRoomToAdd net ledger e Got = HasRoom ledger e.role

-- A ledger has room for so many events of each role, and in all.
pub record HasRoomFor (room : ℕ) (ledger : LedgerView) : Type 0 where
  pub events : ledger.room ≡ room
  pub most : ledger.most ≡ room
  pub states : (r : ℕ) → r < length ledger.stacks → (stack_at ledger.stacks r).room ≡ room

-- So many of the first events of each role are gone over, and the ledger holds those of them that stay.
pub record IsRenewing (net : Net) (logs : List (List Event)) (ends : List ℕ) (room : ℕ) (counts : List ℕ) (fresh : LedgerView) : Type 0 where
  pub held : List Event
  pub stay : (r : ℕ) → events_of r held ≡ staying net logs ends r (slice_index counts r)
  pub queued : IsQueued net held
  pub holds : HoldsKept net (length logs) no_vars held fresh
  pub entries : all_events fresh.logs ≡ length fresh.entries
  pub few : length fresh.entries + left_in logs counts ≤ all_events logs
  pub rooms : HasRoomFor room fresh

-- All events are gone over: the ledger holds those that stay.
pub record IsRenewed (net : Net) (logs : List (List Event)) (ends : List ℕ) (room : ℕ) (fresh : LedgerView) : Type 0 where
  pub held : List Event
  pub stay : (r : ℕ) → events_of r held ≡ staying net logs ends r (length (log_at logs r))
  pub queued : IsQueued net held
  pub holds : HoldsKept net (length logs) no_vars held fresh
  pub entries : all_events fresh.logs ≡ length fresh.entries
  pub few : length fresh.entries ≤ all_events logs
  pub rooms : HasRoomFor room fresh

-- The numbers of role r after forgetting so many more of its events, up to this place of its log; the new log is so long.
abbrev pub forgotten_from : List Event → ℕ → ℕ → ℕ → Numbers → Numbers
forgotten_from log end count size x =
    record x {
      seeds = size - (length log - end);
      forgotten = x.forgotten + count;
      point = if count == 0 then x.point else point_or_none (slice_get log (end - 1));
    }

pub record AreForgotten (old new : List Numbers) (logs fresh : List (List Event)) (counts ends : List ℕ) : Type 0 where
  pub all : length new ≡ length old
  pub each : (r : ℕ) → r < length old
      → numbers_at new r
      ≡ forgotten_from (log_at logs r) (slice_index ends r) (slice_index counts r) (length (log_at fresh r)) (numbers_at old r)
