-- Laws of snapshots: each of its lines is taken, and what it restores is the session.
use Rattle.std.specs.Prelude.{◌≡◌, ℕ, ◌<◌, ◌≤◌, ◌^◌, List, length, drop, take, slice_get, Some}
use Rattle.rcv_tree.specs.declared.entry.Entry.{Entry}
use Rattle.rcv_tree.specs.declared.event.Event.{Event}
use Rattle.rcv_tree.specs.declared.event.Dir.TheVariants.{Sent}
use Rattle.rcv_model.specs.Net.{IsPrefix}
use Rattle.rcv_model.specs.Run.{acts, place_of, put, taken}
use Rattle.rcv_model.specs.Next.{IsNext}
use Rattle.rcv_tables.specs.Rows.{TableView}
use Rattle.rcv_ledger.specs.Ledger.{LedgerView}
use Rattle.rcv_ledger.specs.Logs.{log_at}
use Rattle.rcv_saves.specs.Counts.{IsAscending}
use Rattle.rcv_saves.specs.Saves.{told_of, AreSaves}
use Rattle.rcv_dialogue.specs.declared.line.Again.{Again}
use Rattle.rcv_guide.specs.Numbers.{numbers_at}
use Rattle.rcv_guide.specs.Failing.{all_events}
use Rattle.rcv_guide.specs.Guide.{net_for, most_told, IsSoundMemory, AreStamped, AreFewOf, IsGuide}
use Rattle.rcv_guide.specs.History.{HasHistory}
use Rattle.rcv_guide.specs.Remembered.{seeds_at}
use Rattle.rcv_guided.specs.Session.{SessionView, roles_in, incarnation_of, begun, IsSession, HaveMade}
use Rattle.rcv_guided.specs.Restoring.{AreSnapshot, AreTaken}

-- The event is a Send of role r, whose message has its stamp.
pub record IsSentBy (r : ℕ) (e : Event) : Type 0 where
  pub role : e.role ≡ r
  pub dir : e.dir ≡ Sent
  pub sent : e.sent ≡ e.stamp

-- What each session has: numbers, a log, an incarnation and saves of each role. The saves ascend. The first events of a log, as
-- many as it has seeds, are Sends of the role.
pub record HasForm (s : SessionView) : Type 0 where
  pub logs : length s.guide.logs ≡ roles_in s
  pub numbers : length s.guide.numbers ≡ roles_in s
  pub incarnations : length s.incarnations ≡ roles_in s
  pub steps : length s.saves.steps ≡ roles_in s
  pub told : length s.saves.told ≡ roles_in s
  pub ascending : (r : ℕ) → r < roles_in s → IsAscending (told_of s.saves r)
  pub seeds : (r : ℕ) → r < roles_in s → (numbers_at s.guide.numbers r).seeds ≤ length (log_at s.guide.logs r)
  pub seeds_are : (r n : ℕ) (e : Event) → r < roles_in s → slice_get (seeds_at s.guide r) n ≡ Some e → IsSentBy r e

-- The place of a role before the event that has this number in its log. That event is none of its seeds.
abbrev pub place_before : SessionView → ℕ → ℕ → ℕ
place_before s r n =
    let x = numbers_at s.guide.numbers r in
    place_of x.point (drop x.seeds (acts r (take n (log_at s.guide.logs r))))

-- What told lines leave of a session. Its numbers are at most what was told, and there is room for what it remembers. Places
-- and ends of events are its protocol's. Stamps grow, and a Send's message has its stamp. What each channel's receiver took is
-- the beginning of what was put there. After its seeds each event of a role is one of the points that came next. And each role
-- has made what it saved.
pub record IsRestorable (s : SessionView) : Type 0 where
  pub told : s.guide.told ≤ most_told
  pub least : 1 ≤ s.guide.room
  pub most : s.guide.room < 2 ^ 31
  pub filled : all_events s.guide.logs ≤ s.guide.room
  pub incarnations : (r : ℕ) → r < roles_in s → incarnation_of s r ≤ s.guide.told
  pub sound : IsSoundMemory s.guide
  pub stamped : AreStamped s.guide
  pub few : (r : ℕ) → r < roles_in s → AreFewOf s.guide.told (log_at s.guide.logs r) (numbers_at s.guide.numbers r)
  pub queued : (a b : ℕ) → IsPrefix (taken (net_for s.guide) a b (log_at s.guide.logs b)) (put (net_for s.guide) a b (log_at s.guide.logs a))
  pub turns : (r n : ℕ) (e : Event) → r < roles_in s → (numbers_at s.guide.numbers r).seeds ≤ n → slice_get (log_at s.guide.logs r) n ≡ Some e
      → IsNext (net_for s.guide) r (place_before s r n) e.point
  pub saved : HaveMade s.guide s.saves

-- The session as it is restored: what is remembered uses the places, and no others are used.
abbrev pub restored_whole : SessionView → SessionView
restored_whole s =
    record s { guide = record s.guide { used = all_events s.guide.logs }; restored = Some s.guide.told }

-- A session begins with the protocol, plan and steps of another one, with room for however many events. If it takes the lines
-- of a snapshot of that other one, it is that one.
abbrev pub SnapshotsRestore : Type 0
SnapshotsRestore =
    (s last : SessionView) (lines : List Again) (room : ℕ) → HasForm s → AreSnapshot s lines
    → AreTaken (begun s.guide.protocol s.guide.plan room s.saves.steps) lines last → last ≡ restored_whole s

-- And it takes these lines, if the other one is what told lines leave.
abbrev pub SnapshotsAreTaken : Type 0
SnapshotsAreTaken =
    (s : SessionView) (lines : List Again) (room : ℕ) → HasForm s → IsRestorable s → AreSnapshot s lines
    → AreTaken (begun s.guide.protocol s.guide.plan room s.saves.steps) lines (restored_whole s)

-- Told lines do leave that: it follows from what a session and its guide keep, and from a history from the start on.
abbrev pub ToldSessionsAreRestorable : Type 0
ToldSessionsAreRestorable =
    (s : SessionView) (table : TableView) (ledger : LedgerView) (history : List Entry) → IsGuide s.guide table ledger
    → HasHistory s.guide history → IsSession s → AreSaves s.saves → HasForm s × IsRestorable s
