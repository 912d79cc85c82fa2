-- What contracts see of a job, and what it keeps.
use Rattle.std.specs.Prelude.{◌≡◌, ◌⊎◌, ℕ, ◌<◌, Bool, List, length, slice_index_or}
use Rattle.rcv_tree.specs.declared.entry.Entry.{Entry}
use Rattle.rcv_session.specs.Session.{SessionView}
use Rattle.rcv_jobs.specs.Texts.{IsAloneText}
use Rattle.rcv_jobs.specs.Left.{left_behind, left_before}
use Rattle.rcv_jobs.specs.declared.stage.Stage.{Stage}
use Rattle.rcv_jobs.specs.declared.stage.Stage.TheVariants.{Waiting, Running, Written, Stopped}

-- How far a job has come: not begun; so many entries made; at its end, with its text; or stopped because memory ran out.
pub data StageView : Type 0 where
  Waits : StageView
  Runs : (entries : List Entry) → StageView
  Ends : (completed : Bool) (text : List ℕ) → StageView
  Stops : StageView

-- A job's session, whether it is written as JSON, and how far it has come.
pub record JobView : Type 0 where
  pub session : SessionView
  pub json : Bool
  pub stage : StageView

abbrev pub job_of : SessionView → Bool → StageView → JobView
job_of session json stage = record { session = session; json = json; stage = stage }

abbrev pub seen : Stage → StageView
seen Waiting = Waits
seen (Running book) = Runs book.entries
seen (Written completed text) = Ends completed text.items
seen Stopped = Stops

-- What a job keeps.
abbrev pub IsJob : SessionView → Bool → Stage → Type 0
IsJob session json Waiting = Unit {0}
IsJob session json (Running book) = book.setup ≡ session
IsJob session json (Written completed text) = IsAloneText session json completed text.items
IsJob session json Stopped = Unit {0}

-- Both are of one session, and are written in one form.
abbrev pub IsSameJob : JobView → JobView → Type 0
IsSameJob old new = (new.session ≡ old.session) × (new.json ≡ old.json)

-- The session has been written (`HasEnded`); it has stopped because memory ran out (`HasStopped`).
abbrev pub HasEnded : StageView → Type 0
HasEnded (Ends completed text) = Unit {0}
HasEnded _ = ⊥

abbrev pub HasStopped : StageView → Type 0
HasStopped Stops = Unit {0}
HasStopped _ = ⊥

-- How many turns are left at most.
abbrev pub left_of : SessionView → StageView → ℕ
left_of session Waits = left_before session
left_of session (Runs entries) = left_behind (record { setup = session; entries = entries })
left_of session (Ends completed text) = 0
left_of session Stops = 0

-- No session has both been written and stopped.
pub not_both : (s : StageView) → HasEnded s → HasStopped s → ⊥
not_both Waits e s = e
not_both (Runs entries) e s = e
not_both (Ends completed text) e s = s
not_both Stops e s = e

-- A job that has been written or has stopped.
abbrev pub IsThrough : JobView → Type 0
IsThrough job = HasEnded job.stage ⊎ HasStopped job.stage

-- The jobs are through, and each is of the session that it was of.
abbrev pub AreThrough : List JobView → List JobView → Type 0
AreThrough old new =
    (length new ≡ length old)
    × ((i : ℕ) (d : JobView) → i < length old → IsSameJob (slice_index_or old i d) (slice_index_or new i d))
    × ((i : ℕ) (d : JobView) → i < length old → IsThrough (slice_index_or new i d))
