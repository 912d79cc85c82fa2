-- What `run --sessions` makes of a session: several sessions, each the one that one thread makes.
use Rattle.std.specs.Prelude.{◌≡◌, ◌⊎◌, ℕ, ◌*◌, ◌<◌, Bool, true, false, List, length, map, slice_index_or, if◌then◌else◌}
use Rattle.std.specs.List.{list_any}
use Rattle.rcv_session.specs.Session.{SessionView, roles_of, rules_of}
use Rattle.rcv_input.specs.declared.refused.Refused.TheVariants.{TooMuch}
use Rattle.rcv_input.specs.Line.{refusal_line}
use Rattle.rcv_joined.specs.Joined.{joined}
use Rattle.rcv_later.specs.Later.{later}
use Rattle.rcv_top.specs.declared.status.Status.{Status}
use Rattle.rcv_top.specs.declared.status.Status.TheVariants.{Completed, Refused, Limited}
use Rattle.rcv_top.specs.Running.{IsSessionRun}

-- How one of several sessions ended, and its journal as it is written.
pub record OneRun : Type 0 where
  pub status : Status
  pub bytes : List ℕ

-- It is what one worker makes of this session.
abbrev pub IsOneRun : Bool → SessionView → OneRun → Type 0
IsOneRun json session run = IsSessionRun 1 json session run.status run.bytes

-- These are the runs of so many sessions, in order: run i, counted from 0, is that of session i, in which each crash line
-- has a count that is i more.
pub record AreRuns (sessions : ℕ) (json : Bool) (session : SessionView) (runs : List OneRun) : Type 0 where
  pub count : length runs ≡ sessions
  pub each : (i : ℕ) (d : OneRun) → i < sessions → IsOneRun json (later session i) (slice_index_or runs i d)

-- It was limited.
abbrev pub says_limited : Status → Bool
says_limited Limited = true
says_limited _ = false

abbrev pub is_limited : OneRun → Bool
is_limited run = says_limited run.status

-- How they ended in all: limited if one was, else completed.
abbrev pub ended_as : List OneRun → Status
ended_as runs = if list_any is_limited runs then Limited else Completed

-- Their journals as they are written.
abbrev pub texts_of : List OneRun → List (List ℕ)
texts_of runs = map (λ run. run.bytes) runs

-- The status says how so many sessions ended, and the bytes are their journals, one after the other.
pub record IsManyRun (sessions : ℕ) (json : Bool) (session : SessionView) (status : Status) (bytes : List ℕ) : Type 0 where
  pub runs : List OneRun
  pub are_runs : AreRuns sessions json session runs
  pub status_is : status ≡ ended_as runs
  pub bytes_are : bytes ≡ joined json 0 (texts_of runs)

-- So many sessions may make too many events in all: more than 3,200,000.
abbrev pub IsTooMuch : ℕ → SessionView → Type 0
IsTooMuch sessions session = 3200000 < roles_of session * (rules_of session).limit * sessions

-- They are refused with the line of that.
pub record IsRefusedAsTooMuch (sessions : ℕ) (session : SessionView) (status : Status) (bytes : List ℕ) : Type 0 where
  pub too_much : IsTooMuch sessions session
  pub status_is : status ≡ Refused
  pub bytes_are : bytes ≡ refusal_line TooMuch

-- They aren't too much, and these are their journals.
pub record AreWritten (sessions : ℕ) (json : Bool) (session : SessionView) (status : Status) (bytes : List ℕ) : Type 0 where
  pub fits : IsTooMuch sessions session → ⊥
  pub many_run : IsManyRun sessions json session status bytes

-- What several sessions come to: one of the two. Neither workers nor schedules decide any of it.
abbrev pub IsRunOfMany : ℕ → Bool → SessionView → Status → List ℕ → Type 0
IsRunOfMany sessions json session status bytes =
    IsRefusedAsTooMuch sessions session status bytes ⊎ AreWritten sessions json session status bytes
