-- The logs of the roles, the marks of their events, and the protocol that they are of.
use Rattle.std.specs.Prelude.{◌≡◌, ℕ, ◌+◌, ◌*◌, ◌<◌, ◌≤◌, ◌^◌, List, [], length, Some, slice_get, slice_index_or}
use Rattle.rcv_tree.specs.declared.event.Event.{Event}
use Rattle.rcv_model.specs.Net.{Net, HasTwoEnds}
use Rattle.rcv_model.specs.Run.{IsQueued}
use Rattle.rcv_model.specs.Journal.{events_of}
use Rattle.rcv_model.specs.ByPoints.{AreByEnds}
use Rattle.rcv_depend.specs.declared.mark.Mark.{Mark}

-- The log of a role; a role without one did nothing.
abbrev pub log_at : List (List Event) → ℕ → List Event
log_at logs r = slice_index_or logs r []

-- At most eight roles have logs, each of fewer than 2^32 events.
pub record AreFew (logs : List (List Event)) : Type 0 where
  pub eight : length logs ≤ 8
  pub each : (r : ℕ) → length (log_at logs r) < 2 ^ 32

-- The logs are the role lists of these events: at most 8 lists, each of fewer than 2^32 events; the channels are queues;
-- each event is by an end of its point; and nobody sends to itself.
pub record AreLogsOf (net : Net) (h : List Event) (logs : List (List Event)) : Type 0 where
  pub lists : (r : ℕ) → log_at logs r ≡ events_of r h
  pub eight : length logs ≤ 8
  pub few : (r : ℕ) → length (log_at logs r) < 2 ^ 32
  pub queued : IsQueued net h
  pub ends : AreByEnds net h
  pub two : HasTwoEnds net

-- They are those of some events of this protocol.
abbrev pub AreOfEvents : Net → List (List Event) → Type 0
AreOfEvents net logs = (h : List Event) × AreLogsOf net h logs

-- The event is one of role r at a point of the net, whose ends are among eight roles.
pub record IsSound (net : Net) (r : ℕ) (e : Event) : Type 0 where
  pub role : e.role ≡ r
  pub first : 1 ≤ e.point
  pub last : e.point ≤ net.count
  pub sender : net.sender e.point < 8
  pub receiver : net.receiver e.point < 8

-- Each event of this log of role r is; and so is each event of the logs.
abbrev pub IsSoundLog : Net → ℕ → List Event → Type 0
IsSoundLog net r log = (n : ℕ) (e : Event) → slice_get log n ≡ Some e → IsSound net r e

abbrev pub AreSound : Net → List (List Event) → Type 0
AreSound net logs = (r : ℕ) → IsSoundLog net r (log_at logs r)

-- The mark has the point and the direction of the event.
pub record IsMarkOf (e : Event) (mark : Mark) : Type 0 where
  pub point : mark.point ≡ e.point
  pub dir : mark.dir ≡ e.dir

-- The event of role r with this number has this mark.
pub record HasMark (logs : List (List Event)) (r n : ℕ) (mark : Mark) : Type 0 where
  pub event : Event
  pub there : slice_get (log_at logs r) n ≡ Some event
  pub own : IsMarkOf event mark

-- Where the channel from one role to another stands among those of eight roles.
abbrev pub between : ℕ → ℕ → ℕ
between from to = from * 8 + to
