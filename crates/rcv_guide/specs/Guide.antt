-- What contracts see of a guide, and what it keeps.
use Rattle.std.specs.Prelude.{◌≡◌, ℕ, ℤ, ◌+◌, ◌-◌, ◌^◌, ◌<◌, ◌≤◌, max, pos, Bool, true, false, if◌then◌else◌, Option, List, [], length, map, replicate, drop, take, Some, slice_get, slice_index}
use Rattle.std.specs.List.{range_with_len}
use Rattle.rcv_tree.specs.Bits.{has_bit, is_listed}
use Rattle.rcv_tree.specs.declared.protocol.Protocol.{Protocol}
use Rattle.rcv_tree.specs.declared.role.RoleSet.{RoleSet}
use Rattle.rcv_tree.specs.declared.event.Event.{Event}
use Rattle.rcv_tree.specs.declared.event.Message.{Message}
use Rattle.rcv_tree.specs.declared.event.Dir.TheVariants.{Sent, Got}
use Rattle.rcv_tree.specs.declared.entry.Entry.{Entry}
use Rattle.rcv_tree.specs.declared.entry.Entry.TheVariants.{Recover}
use Rattle.rcv_tree.specs.Events.{send_of, recv_of}
use Rattle.rcv_model.specs.ByPoints.{IsByEnd}
use Rattle.rcv_model.specs.Text.{body_of}
use Rattle.rcv_model.specs.Net.{Net}
use Rattle.rcv_model.specs.Places.{net_of}
use Rattle.rcv_model.specs.Plan.{PlanLine, host_in}
use Rattle.rcv_model.specs.Run.{acts, place_of, put, taken, IsQueued}
use Rattle.rcv_model.specs.Next.{IsNext, IsPlaceOf}
use Rattle.rcv_model.specs.Journal.{events_of}
use Rattle.rcv_accept.specs.Accepted.{IsAcceptedProtocol}
use Rattle.rcv_plan.specs.Lines.{IsPlanned}
use Rattle.rcv_plan.specs.Plans.{IsGroup}
use Rattle.rcv_tables.specs.Rows.{TableView, IsTable}
use Rattle.rcv_ledger.specs.Logs.{log_at, with_event_of}
use Rattle.rcv_ledger.specs.Ledger.{LedgerView, stack_at, HoldsKept}
use Rattle.rcv_told.specs.Told.{Terms, Remembered, Standpoint, told_after, left_at, made_of, group_of, IsInFront, HasFailed, MayBeTold}
use Rattle.rcv_told.specs.Forgetting.{IsShorter}
use Rattle.rcv_guide.specs.declared.news.News.{News}
use Rattle.rcv_guide.specs.declared.numbers.Numbers.{Numbers}
use Rattle.rcv_guide.specs.declared.recovery.Recovery.{Recovery}
use Rattle.rcv_guide.specs.Numbers.{at_start, numbers_at, down_of, with_advanced, AreNumbers, AreBack}
use Rattle.rcv_guide.specs.Failing.{all_events}

-- An accepted protocol; a plan, whose `host` lines alone count; the remembered events of each role, and its numbers; how many
-- events there is room for until what is stable is forgotten; how many of these places are used; and how much was told in all.
pub record GuideView : Type 0 where
  pub protocol : Protocol
  pub plan : List PlanLine
  pub logs : List (List Event)
  pub numbers : List Numbers
  pub room : ℕ
  pub used : ℕ
  pub told : ℕ

-- A guide of these parts.
abbrev pub guide_of : Protocol → List PlanLine → LedgerView → List Numbers → ℕ → ℕ → GuideView
guide_of protocol plan ledger numbers room told =
    record {
      protocol = protocol;
      plan = plan;
      logs = ledger.logs;
      numbers = numbers;
      room = room;
      used = length ledger.entries;
      told = told;
    }

abbrev pub net_for : GuideView → Net
net_for g = net_of (body_of g.protocol.body)

abbrev pub roles_of : GuideView → ℕ
roles_of g = length g.protocol.roles

-- The terms by which a guide's session is told.
abbrev pub terms_of : GuideView → Terms
terms_of g = record { net = net_for g; roles = roles_of g; host = host_in g.plan }

-- So much can be told at most.
abbrev pub most_told : ℕ
most_told = 2 ^ 62

-- A session before its first event.
abbrev pub opened : Protocol → List PlanLine → ℕ → GuideView
opened protocol plan room =
    record {
      protocol = protocol;
      plan = plan;
      logs = replicate (length protocol.roles) [];
      numbers = replicate (length protocol.roles) at_start;
      room = room;
      used = 0;
      told = 0;
    }

-- A memory of the session: its events in some order, such as that in which they were told.
pub record IsMemory (g : GuideView) (m : Remembered) : Type 0 where
  pub events : (r : ℕ) → events_of r m.held ≡ log_at g.logs r
  pub queued : IsQueued (net_for g) m.held
  pub numbers_are : AreNumbers (roles_of g) m g.numbers

-- It has one.
pub record HasMemory (g : GuideView) : Type 0 where
  pub memory : Remembered
  pub is : IsMemory g memory

-- The new session is the old one after one thing more. That may be told, whatever memory the old one has, and what is
-- remembered after it is the new one's memory.
pub record IsAfter (old new : GuideView) (e : Entry) : Type 0 where
  pub may : (m : Remembered) → IsMemory old m → MayBeTold (terms_of old) m e
  pub memory : (m : Remembered) → IsMemory old m → IsMemory new (told_after (terms_of old) m e)

-- The same session after one event more, which uses a place; and with one thing more that is told of some role.
abbrev pub with_event : GuideView → Event → GuideView
with_event g e =
    record g {
      logs = with_event_of g.logs e.role e;
      numbers = with_advanced g.numbers e;
      used = g.used + 1;
      told = g.told + 1;
    }

abbrev pub with_numbers : GuideView → List Numbers → GuideView
with_numbers g numbers = record g { numbers = numbers; told = g.told + 1 }

-- Whether a role is down; none if it isn't declared.
abbrev pub down_at : List Numbers → ℕ → Option Bool
down_at numbers r = down_of (slice_get numbers r)

-- What lies in the channel from one role to another.
abbrev pub in_channel : GuideView → ℕ → ℕ → List Message
in_channel g from to =
    drop (length (taken (net_for g) from to (log_at g.logs to))) (put (net_for g) from to (log_at g.logs from))

-- The point of a message is one of the text's.
abbrev pub IsOfText : GuideView → Message → Type 0
IsOfText g m = (1 ≤ m.point) × (m.point ≤ (net_for g).count)

-- A role's standpoint.
abbrev pub stand : GuideView → ℕ → Standpoint
stand g r =
    record {
      down = down_at g.numbers r;
      place = place_of (numbers_at g.numbers r).point (drop (numbers_at g.numbers r).seeds (acts r (log_at g.logs r)));
      clock = (numbers_at g.numbers r).clock;
      lies = λ from. in_channel g from r;
    }

-- There is room for one event more.
abbrev pub HasRoom : GuideView → Type 0
HasRoom g = (g.used < g.room) × (g.told < most_told)

-- The role of an event is declared and up, in the attempt that is told, and there is room.
pub record IsAble (g : GuideView) (news : News) : Type 0 where
  pub up : (stand g news.role).down ≡ Some false
  pub attempt : news.attempt ≡ (numbers_at g.numbers news.role).attempt
  pub room : HasRoom g

-- The point is one of the role's next points.
abbrev pub IsNextOf : GuideView → ℕ → ℕ → Type 0
IsNextOf g r p = IsNext (net_for g) r (stand g r).place p

-- It is the role's turn to send there; and to receive there.
abbrev pub IsTurnToSend : GuideView → News → Type 0
IsTurnToSend g news = IsNextOf g news.role news.point × ((net_for g).sender news.point ≡ news.role)

abbrev pub IsTurnToReceive : GuideView → News → Type 0
IsTurnToReceive g news = IsNextOf g news.role news.point × ((net_for g).receiver news.point ≡ news.role)

-- A Send may come: its role is able, and it is its turn.
pub record MayBeSent (g : GuideView) (news : News) : Type 0 where
  pub able : IsAble g news
  pub turn : IsTurnToSend g news

-- The message of what is told, with its stamp.
abbrev pub message : News → ℕ → Message
message news stamp = record { point = news.point; value = news.value; stamp = stamp }

-- A Recv may come: its role is able, it is its turn, and the message is in front.
pub record MayBeReceived (g : GuideView) (news : News) (stamp : ℕ) : Type 0 where
  pub able : IsAble g news
  pub turn : IsTurnToReceive g news
  pub front : IsInFront (net_for g) (stand g news.role) (message news stamp)

-- The stamp of a role's next Send, and that of a Recv of a message with this stamp.
abbrev pub stamp_to_send : GuideView → ℕ → ℕ
stamp_to_send g r = (stand g r).clock + 1

abbrev pub stamp_to_receive : GuideView → ℕ → ℕ → ℕ
stamp_to_receive g r sent = max (stand g r).clock sent + 1

-- The events that are told.
abbrev pub sent : GuideView → News → Event
sent g news = send_of news.role news.point news.value (stamp_to_send g news.role)

abbrev pub received : GuideView → News → ℕ → Event
received g news stamp = recv_of news.role (message news stamp) (stamp_to_receive g news.role stamp)

-- Each failed role has saved at least as many of its events as are forgotten.
abbrev pub HaveSavedEnough : GuideView → ℕ → List ℕ → Type 0
HaveSavedEnough g p saved =
    (q : ℕ) → q < 8 → is_listed (group_of (terms_of g) p) q ≡ true → (numbers_at g.numbers q).forgotten ≤ slice_index saved q

-- A recovery may come: the role is declared and down, its group has saved enough, and so much may be told.
pub record MayRecover (g : GuideView) (p : ℕ) (saved : List ℕ) : Type 0 where
  pub down : (stand g p).down ≡ Some true
  pub told : g.told < most_told
  pub enough : HaveSavedEnough g p saved

-- The answer to a failure: how many events of each role are kept, and how many are undone.
pub record TellsLeft (g : GuideView) (m : Remembered) (left : List Event) (back : Recovery) : Type 0 where
  pub eight : length back.kept ≡ 8
  pub counts : (r : ℕ) → r < roles_of g → slice_index back.kept r ≡ made_of m left r
  pub undone : back.undone + length left ≡ length m.held

-- The counts as a journal lists them: 0 for a role that isn't concerned.
abbrev pub listed_of : Recovery → List ℕ
listed_of back = map (λ r. if has_bit back.concerned.0 r then slice_index back.kept r else 0) (range_with_len 0 8)

-- The recovery as it is told.
abbrev pub recovery_entry : ℕ → Recovery → Entry
recovery_entry p back = Recover p back.concerned (listed_of back) back.undone

-- The events of a memory that are left if p's group fails with these saved counts.
abbrev pub left_in : GuideView → Remembered → ℕ → List ℕ → List Event
left_in g m p saved = left_at (net_for g) m (group_of (terms_of g) p) (slice_index saved)

-- The answer is what the failure takes back, whatever the session's memory is.
pub record IsFailureOf (g : GuideView) (p : ℕ) (saved : List ℕ) (back : Recovery) : Type 0 where
  pub tells : (m : Remembered) → IsMemory g m → TellsLeft g m (left_in g m p saved) back
  pub failed : (m : Remembered) → IsMemory g m
      → HasFailed (terms_of g) m p (slice_index saved) back.concerned (listed_of back) back.undone

-- So many of each role's remembered events are left, whatever the session's memory is.
abbrev pub AreLeft : GuideView → ℕ → List ℕ → List ℕ → Type 0
AreLeft g p saved left =
    (m : Remembered) → IsMemory g m → (r : ℕ) → slice_index left r ≡ length (acts r (left_in g m p saved))

-- The session went back to what is left of it.
pub record HasGoneBack (old new : GuideView) (p : ℕ) (left : List ℕ) (back : Recovery) : Type 0 where
  pub log : (r : ℕ) → log_at new.logs r ≡ take (slice_index left r) (log_at old.logs r)
  pub group : RoleSet
  pub group_is : IsGroup old.plan p group.0
  pub numbers : AreBack old.numbers new.numbers group.0 back.concerned.0 old.logs left
  pub rest : new ≡ record old { logs = new.logs; numbers = new.numbers; told = old.told + 1 }

-- The session recovered: it went back to what is left if each failed role has saved so many of its events.
pub record HasRecovered (old new : GuideView) (p : ℕ) (saved : List ℕ) (back : Recovery) : Type 0 where
  pub left : List ℕ
  pub left_is : AreLeft old p saved left
  pub gone : HasGoneBack old new p left back

-- These counts can be forgotten: the log of each role has so many events after its seeds, and nothing is received within the
-- counts that is sent outside.
pub record MayForget (g : GuideView) (counts : List ℕ) : Type 0 where
  pub eight : length counts ≡ 8
  pub held : (r : ℕ) → r < roles_of g → (numbers_at g.numbers r).seeds + slice_index counts r ≤ length (log_at g.logs r)
  pub closed : (a b : ℕ) → a < roles_of g → b < roles_of g
      → length (taken (net_for g) a b (take ((numbers_at g.numbers b).seeds + slice_index counts b) (log_at g.logs b)))
      ≤ length (put (net_for g) a b (take ((numbers_at g.numbers a).seeds + slice_index counts a) (log_at g.logs a)))

-- A shorter memory replaced the old one: it lacks exactly so many events more of each role. Only what is remembered uses places,
-- and it isn't more than before.
pub record HasForgotten (old new : GuideView) (counts : List ℕ) (room : ℕ) : Type 0 where
  pub shorter : (m : Remembered) → IsMemory old m → (short : Remembered) × IsMemory new short × IsShorter (net_for old) m short
  pub gone : (r : ℕ) → r < roles_of old
      → (numbers_at new.numbers r).forgotten ≡ (numbers_at old.numbers r).forgotten + slice_index counts r
  pub used : new.used ≡ all_events new.logs
  pub few : all_events new.logs ≤ all_events old.logs
  pub rest : new ≡ record old { logs = new.logs; numbers = new.numbers; room = room; used = new.used }

-- A guide's roles have no variables.
abbrev pub no_vars : ℕ → List Event → List ℤ
no_vars r events = replicate 16 (pos 0)

-- The places of a role's events, and the place after its forgotten ones, are the role's own, and so are the ends of its points.
-- Its seeds are Sends.
pub record IsSoundMemory (g : GuideView) : Type 0 where
  pub points : (r : ℕ) → r < roles_of g → IsPlaceOf (net_for g) r (numbers_at g.numbers r).point
  pub events : (r n : ℕ) (e : Event) → slice_get (log_at g.logs r) n ≡ Some e
      → (r < roles_of g) × (1 ≤ e.point) × (e.point ≤ (net_for g).count) × IsPlaceOf (net_for g) r e.point
  pub seeds : (r : ℕ) → r < roles_of g → (numbers_at g.numbers r).seeds ≤ length (log_at g.logs r)
  pub seeds_are : (a b : ℕ) → taken (net_for g) a b (take (numbers_at g.numbers b).seeds (log_at g.logs b)) ≡ []
  pub ends : (r n : ℕ) (e : Event) → slice_get (log_at g.logs r) n ≡ Some e → IsByEnd (net_for g) e

-- Stamps grow along each role's events, up to its clock. A message's stamp is below that of its Recv, and a Send has its
-- message's stamp.
pub record AreStamped (g : GuideView) : Type 0 where
  pub grow : (r i j : ℕ) (e f : Event) → i < j → slice_get (log_at g.logs r) i ≡ Some e → slice_get (log_at g.logs r) j ≡ Some f
      → e.stamp < f.stamp
  pub within : (r i : ℕ) (e : Event) → slice_get (log_at g.logs r) i ≡ Some e → e.stamp ≤ (numbers_at g.numbers r).clock
  pub after : (r i : ℕ) (e : Event) → slice_get (log_at g.logs r) i ≡ Some e → e.dir ≡ Got → e.sent < e.stamp
  pub sent : (r i : ℕ) (e : Event) → slice_get (log_at g.logs r) i ≡ Some e → e.dir ≡ Sent → e.sent ≡ e.stamp

-- A role's numbers are at most what was told.
pub record AreFewOf (told : ℕ) (log : List Event) (x : Numbers) : Type 0 where
  pub raw : x.raw ≤ told
  pub made : x.forgotten + (length log - x.seeds) ≤ x.raw
  pub attempts : x.attempt ≤ told
  pub clocks : x.clock ≤ told

-- There is room for as many events as may be told.
pub record HasRooms (g : GuideView) (ledger : LedgerView) : Type 0 where
  pub few : g.room < 2 ^ 31
  pub used : g.used ≡ length ledger.entries
  pub filled : g.used ≤ g.room
  pub logged : all_events g.logs ≤ g.used
  pub most : g.room ≤ ledger.most
  pub events : g.room ≤ ledger.room
  pub states : (r : ℕ) → r < roles_of g → g.room ≤ (stack_at ledger.stacks r).room

-- The ledger holds some memory of the session.
pub record HoldsMemory (g : GuideView) (ledger : LedgerView) : Type 0 where
  pub memory : Remembered
  pub is : IsMemory g memory
  pub holds : HoldsKept (net_for g) (roles_of g) no_vars memory.held ledger

-- What a guide keeps.
pub record IsGuide (g : GuideView) (table : TableView) (ledger : LedgerView) : Type 0 where
  pub protocol : IsAcceptedProtocol g.protocol
  pub planned : IsPlanned (roles_of g) g.plan
  pub table_is : IsTable (net_for g) (roles_of g) table
  pub logs : length g.logs ≡ roles_of g
  pub numbers : length g.numbers ≡ roles_of g
  pub holds : HoldsMemory g ledger
  pub sound : IsSoundMemory g
  pub stamped : AreStamped g
  pub told : g.told ≤ most_told
  pub few : (r : ℕ) → r < roles_of g → AreFewOf g.told (log_at g.logs r) (numbers_at g.numbers r)
  pub rooms : HasRooms g ledger
