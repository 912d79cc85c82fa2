-- What `run` makes of a session.
use Rattle.std.specs.Prelude.{◌≡◌, ℕ, ◌≤◌, Bool, List}
use Rattle.rcv_tree.specs.declared.entry.Entry.{Entry}
use Rattle.rcv_accept.specs.Accepted.{IsAcceptedProtocol}
use Rattle.rcv_session.specs.Session.{SessionView, rules_of}
use Rattle.rcv_model.specs.Journal.{Rules, State, reading}
use Rattle.rcv_model.specs.Final.{AreDone, HasOneAtLimit, IsOneThread}
use Rattle.rcv_transparent.specs.Calm.{ReadsNoAttempt}
use Rattle.rcv_transparent.specs.Traces.{LeavesNoTrace}
use Rattle.rcv_jobs.specs.Texts.{IsWritten}
use Rattle.rcv_top.specs.declared.status.Status.{Status}
use Rattle.rcv_top.specs.declared.status.Status.TheVariants.{Completed, Limited}
use Rattle.rcv_top.specs.Headline.{IsHeadline}

-- A session that can run: its protocol is accepted, and each channel has room for a message. Each session that is taken can.
pub record CanRun (session : SessionView) : Type 0 where
  pub accepted : IsAcceptedProtocol session.protocol
  pub room : 1 ≤ (rules_of session).room

-- The journal of a session that ran to its end: it is as the headline says. If all roles are done at its end and no script reads the
-- attempt, its crashes leave no trace in what is kept.
pub record IsJournalOf (session : SessionView) (journal : List Entry) : Type 0 where
  pub headline : IsHeadline (rules_of session) journal
  pub traceless : AreDone (rules_of session) (reading (rules_of session) journal) → ReadsNoAttempt session → LeavesNoTrace session journal

-- The status of a final state: all roles are done; or some role isn't, and it has come to the limit.
pub data EndsAs (rules : Rules) (s : State) : Status → Type 0 where
  all_done : AreDone rules s → EndsAs rules s Completed
  at_limit : HasOneAtLimit rules s → EndsAs rules s Limited

-- What so many workers make of a session: its journal, which ends with this status, as JSON or as text. One worker makes the
-- journal that one thread makes.
pub record IsSessionRun (workers : ℕ) (json : Bool) (session : SessionView) (status : Status) (bytes : List ℕ) : Type 0 where
  pub journal : List Entry
  pub is_journal : IsJournalOf session journal
  pub ends : EndsAs (rules_of session) (reading (rules_of session) journal) status
  pub written : IsWritten json session journal bytes
  pub alone : workers ≡ 1 → IsOneThread (rules_of session) journal
