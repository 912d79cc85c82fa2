-- What jobs make of the sessions that were prepared.
use Rattle.std.specs.Prelude.{◌≡◌, ℕ, ◌<◌, Bool, List, [], ◌∷◌, ◌++◌, length, map, slice_index_or, if◌then◌else◌}
use Rattle.rcv_session.specs.Session.{SessionView}
use Rattle.rcv_jobs.specs.Texts.{IsAloneText}
use Rattle.rcv_jobs.specs.Jobs.{JobView}
use Rattle.rcv_joined.specs.Joined.{joined}
use Rattle.rcv_later.specs.Preparing.{PreparationView}
use Rattle.rcv_later.specs.Later.{IsLaterOf}
use Rattle.rcv_top.specs.declared.journals.Journals.{Journals}
use Rattle.rcv_top.specs.declared.status.Status.{Status}
use Rattle.rcv_top.specs.declared.status.Status.TheVariants.{Completed, Limited}
use Rattle.rcv_top.specs.Many.{OneRun, ended_as, texts_of}

-- All jobs write JSON, or all write lines.
abbrev pub AreAs : Bool → List JobView → Type 0
AreAs json jobs = (i : ℕ) (d : JobView) → i < length jobs → (slice_index_or jobs i d).json ≡ json

-- There is a job for each of the first k sessions that were prepared, in order.
pub record AreJobsOf (json : Bool) (prepared : List PreparationView) (k : ℕ) (jobs : List JobView) : Type 0 where
  pub count : length jobs ≡ k
  pub as_json : AreAs json jobs
  pub each :
      (i : ℕ) (p : PreparationView) (d : JobView) → i < k
      → IsLaterOf (slice_index_or prepared i p).input (slice_index_or prepared i p).by (slice_index_or jobs i d).session

-- The journal that a job wrote of this session, and how that ended.
pub record IsJobRun (json : Bool) (session : SessionView) (run : OneRun) : Type 0 where
  pub completed : Bool
  pub text : IsAloneText session json completed run.bytes
  pub status_is : run.status ≡ (if completed then Completed else Limited)

-- These are the runs of the sessions of jobs, in order.
pub record AreRunsOf (json : Bool) (jobs : List JobView) (runs : List OneRun) : Type 0 where
  pub count : length runs ≡ length jobs
  pub each : (i : ℕ) (j : JobView) (d : OneRun) → i < length jobs → IsJobRun json (slice_index_or jobs i j).session (slice_index_or runs i d)

-- The status says how their sessions ended, and the bytes are their journals, one after the other.
pub record IsRunOfAll (json : Bool) (jobs : List JobView) (status : Status) (bytes : List ℕ) : Type 0 where
  pub runs : List OneRun
  pub are_runs : AreRunsOf json jobs runs
  pub status_is : status ≡ ended_as runs
  pub bytes_are : bytes ≡ joined json 0 (texts_of runs)

-- They do for jobs of the sessions that were prepared.
pub record IsRunOfPrepared (json : Bool) (prepared : List PreparationView) (status : Status) (bytes : List ℕ) : Type 0 where
  pub jobs : List JobView
  pub are_jobs : AreJobsOf json prepared (length prepared) jobs
  pub is_run : IsRunOfAll json jobs status bytes

-- ---- journals that are lent

-- The texts of what is lent.
abbrev pub lent : Journals → List (List ℕ)
lent all = map (λ t. t.now) all.texts.items

-- The journal of a job was added.
pub record HasOneMore (job : JobView) (old new : Journals) : Type 0 where
  pub completed : Bool
  pub text : List ℕ
  pub is_text : IsAloneText job.session job.json completed text
  pub status_is : new.status ≡ (if completed then old.status else Limited)
  pub texts_are : lent new ≡ lent old ++ text ∷ []

-- These are the journals of the first k jobs, in order, and this is how they ended in all.
pub record AreJournalsOf (jobs : List JobView) (k : ℕ) (all : Journals) : Type 0 where
  pub runs : List OneRun
  pub count : length runs ≡ k
  pub each :
      (i : ℕ) (j : JobView) (d : OneRun) → i < k
      → IsJobRun (slice_index_or jobs i j).json (slice_index_or jobs i j).session (slice_index_or runs i d)
  pub status_is : all.status ≡ ended_as runs
  pub texts_are : lent all ≡ texts_of runs
