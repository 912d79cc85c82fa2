-- What holds of the definitions.
use Rattle.std.specs.Prelude.{◌≡◌, ◌⊎◌, ℕ, ◌≤◌, Bool, codes, List, [], ◌∷◌, length}
use Rattle.rcv_tree.specs.declared.entry.Entry.{Entry}
use Rattle.rcv_session.specs.Session.{SessionView, net_for, rules_of}
use Rattle.rcv_model.specs.Journal.{reading, IsLegal}
use Rattle.rcv_model.specs.Final.{IsFinal}
use Rattle.rcv_input.specs.Input.{IsTaken}
use Rattle.rcv_transparent.specs.Calm.{calm, ReadsNoAttempt, IsDoneJournal}
use Rattle.rcv_transparent.specs.Traces.{KeepTheSame}
use Rattle.rcv_later.specs.Later.{later}
use Rattle.rcv_top.specs.declared.status.Status.{Status}
use Rattle.rcv_top.specs.declared.status.Status.TheVariants.{Completed, Limited}
use Rattle.rcv_words.specs.Commands.{Run, RunMany, IsCommand}
use Rattle.rcv_top.specs.Commands.{AskForSeveral}
use Rattle.rcv_top.specs.Running.{CanRun, IsJournalOf, IsSessionRun}
use Rattle.rcv_top.specs.Many.{AreWritten}
use Rattle.rcv_top.specs.Outcome.{most_bytes, IsOutcome}

-- If the words don't ask for several workers of one session, status and bytes are a function of the words and the input.
abbrev pub OneOutcome : Type 0
OneOutcome =
    (words : List (List ℕ)) (input : List ℕ) (s t : Status) (b c : List ℕ)
    → (AskForSeveral words → ⊥) → IsOutcome words input s b → IsOutcome words input t c → (s ≡ t) × (b ≡ c)

-- Several sessions have one outcome, however many workers share them.
abbrev pub WorkersDecideNothing : Type 0
WorkersDecideNothing =
    (words others : List (List ℕ)) (input : List ℕ) (sessions workers other_workers : ℕ) (json : Bool) (s t : Status) (b c : List ℕ)
    → IsCommand words (RunMany sessions workers json) → IsCommand others (RunMany sessions other_workers json)
    → IsOutcome words input s b → IsOutcome others input t c → (s ≡ t) × (b ≡ c)

-- These words and this input have an outcome.
abbrev pub HasOutcome : List (List ℕ) → List ℕ → Type 0
HasOutcome words input = (status : Status) × (bytes : List ℕ) × IsOutcome words input status bytes

-- All words and inputs have one.
abbrev pub OutcomesExist : Type 0
OutcomesExist = (words : List (List ℕ)) (input : List ℕ) → HasOutcome words input

-- A run ended: it completed, or it was limited.
abbrev pub HasEnded : Status → Type 0
HasEnded status = (status ≡ Completed) ⊎ (status ≡ Limited)

-- What `run` answered, written whole or in part, is what its workers make of the session that the input is taken as.
abbrev pub OutcomesAreRuns : Type 0
OutcomesAreRuns =
    (words : List (List ℕ)) (input : List ℕ) (workers : ℕ) (json : Bool) (status : Status) (bytes : List ℕ)
    → IsCommand words (Run workers json) → HasEnded status → IsOutcome words input status bytes
    → (session : SessionView) × IsTaken input session × IsSessionRun workers json session status bytes

-- With `--sessions` it is the journals of so many sessions, which aren't too much.
abbrev pub OutcomesAreManyRuns : Type 0
OutcomesAreManyRuns =
    (words : List (List ℕ)) (input : List ℕ) (sessions workers : ℕ) (json : Bool) (status : Status) (bytes : List ℕ)
    → IsCommand words (RunMany sessions workers json) → HasEnded status → IsOutcome words input status bytes
    → (session : SessionView) × IsTaken input session × AreWritten sessions json session status bytes

-- A session that is taken can run, and so can each later one of several of it.
abbrev pub TakenSessionsCanRun : Type 0
TakenSessionsCanRun =
    (input : List ℕ) (session : SessionView) → IsTaken input session → CanRun session × ((i : ℕ) → CanRun (later session i))

-- Each legal and final journal of a session that can run is as the headline says, and leaves no trace of its crashes.
abbrev pub JournalsAreLegal : Type 0
JournalsAreLegal =
    (session : SessionView) (journal : List Entry) → CanRun session → IsLegal (rules_of session) journal
    → IsFinal (rules_of session) (reading (rules_of session) journal) → IsJournalOf session journal

-- A session that can run, whose scripts don't read the attempt, with a legal journal that leaves all roles done.
pub record CompletesBlind (session : SessionView) (journal : List Entry) : Type 0 where
  pub can : CanRun session
  pub blind : ReadsNoAttempt session
  pub done : IsDoneJournal session journal

-- Then it also completes without its crash lines, with any number of workers.
abbrev pub CalmSessionsComplete : Type 0
CalmSessionsComplete =
    (session : SessionView) (journal : List Entry) → CompletesBlind session journal
    → (workers : ℕ) (json : Bool) (status : Status) (bytes : List ℕ) → IsSessionRun workers json (calm session) status bytes
    → status ≡ Completed

-- If two of several sessions, i and k, do so, they keep the same, however far apart their crashes are: each role did the same, and each
-- channel carried the same, except for stamps.
abbrev pub SessionsKeepAlike : Type 0
SessionsKeepAlike =
    (session : SessionView) (i k : ℕ) (first second : List Entry)
    → CompletesBlind (later session i) first → CompletesBlind (later session k) second
    → KeepTheSame (net_for session) (reading (rules_of (later session i)) first) (reading (rules_of (later session k)) second)

-- The session of each input that is taken comes to its end: all roles are done, or some role is at the limit.
abbrev pub SessionsEnd : Type 0
SessionsEnd =
    (json : Bool) (input : List ℕ) (session : SessionView) → IsTaken input session
    → (status : Status) × (bytes : List ℕ) × IsSessionRun 1 json session status bytes

-- If what `check` wrote has at most as many bytes as an input may have, `check` writes the same bytes when it reads them.
abbrev pub ChecksStay : Type 0
ChecksStay =
    (input bytes : List ℕ) → IsOutcome (codes "check" ∷ []) input Completed bytes → length bytes ≤ most_bytes
    → IsOutcome (codes "check" ∷ []) bytes Completed bytes
