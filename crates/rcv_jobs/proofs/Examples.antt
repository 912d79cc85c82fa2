-- The definitions: at a session before its first entry, and at two jobs.
use Prim.Native.Nat.{zero, suc}
use Rattle.std.proofs.Common.{◌≡◌, ℕ, ◌+◌, ◌-◌, ◌<◌, Bool, true, false, List, [], ◌∷◌, ◌++◌, length, refl, ap, inl, inr, ⊎_elim, arith, length-append, slice_index_or, codes}
use Rattle.serde_json.specs.Written.{compact_text}
use Rattle.rcv_tree.specs.declared.entry.Entry.{Entry}
use Rattle.rcv_tree.specs.declared.entry.Entry.TheVariants.{Crash}
use Rattle.rcv_model.specs.Journal.{Rules, State, start, reading, IsDue}
use Rattle.rcv_model.specs.Final.{IsFinal, AreDone}
use Rattle.rcv_session.specs.Session.{SessionView, roles_of, rules_of}
use Rattle.rcv_core.specs.Book.{BookView, most_entries}
use Rattle.rcv_core.specs.Skips.{no_skip}
use Rattle.rcv_journal.specs.declared.line.RoleLine.{RoleLine}
use Rattle.rcv_journal.specs.JournalText.{journal_text}
use Rattle.rcv_journal.specs.Lines.{AreLinesOf}
use Rattle.rcv_journal.specs.Json.{journal_data, json_text}
use Rattle.rcv_jobs.specs.Texts.{IsWritten, EndsWell, IsAloneText}
use Rattle.rcv_jobs.specs.Running.{IsRunning}
use Rattle.rcv_jobs.specs.Left.{left_behind, left_before}
use Rattle.rcv_jobs.specs.declared.stage.Stage.TheVariants.{Waiting, Running}
use Rattle.rcv_jobs.specs.Jobs.{JobView, Waits, Runs, Ends, Stops, job_of, IsJob, IsSameJob, left_of, IsThrough, AreThrough}

-- a journal has its JSON and its text, and no JSON is empty
is_json : (session : SessionView) (journal : List Entry) (lines : List RoleLine) → AreLinesOf (rules_of session) (reading (rules_of session) journal) lines
    → IsWritten true session journal (json_text session journal lines)
is_json session journal lines are = record { lines = lines; are_lines = are; is_json = refl }

is_text : (session : SessionView) (journal : List Entry) (lines : List RoleLine) → AreLinesOf (rules_of session) (reading (rules_of session) journal) lines
    → IsWritten false session journal (journal_text session journal lines)
is_text session journal lines are = record { lines = lines; are_lines = are; is_text = refl }

no_line : (front : List ℕ) → [] ≡ front ++ codes "\n" → ⊥
no_line front e =
    let parts = length-append front (codes "\n") in
    let count : 0 ≡ length (front ++ codes "\n") = ap length e in
    let one : length (codes "\n") ≡ 1 = refl in
    absurd (omega (arith, parts, count, one))

never_empty : (session : SessionView) (journal : List Entry) → IsWritten true session journal [] → ⊥
never_empty session journal written = no_line (compact_text (journal_data session journal written.lines)) written.is_json

-- without roles all are done, and none is at the limit
nobody_is_left : (rules : Rules) (s : State) → rules.roles ≡ 0 → EndsWell true rules s
nobody_is_left rules s none r lt = absurd (omega (arith, none, lt))

nobody_is_at_limit : (rules : Rules) (s : State) → rules.roles ≡ 0 → EndsWell false rules s → ⊥
nobody_is_at_limit rules s none ends = let lt = ends.1 in omega (arith, none, lt)

-- where nothing is to be done, the text is that of no entries
nothing_to_do : (session : SessionView) (json : Bool) (text : List ℕ) → IsFinal (rules_of session) (start (roles_of session)) → AreDone (rules_of session) (start (roles_of session))
    → IsWritten json session [] text → IsAloneText session json true text
nothing_to_do session json text end done written = record {
  journal = [];
  legal = tt;
  final = end;
  alone = end;
  ends = done;
  written = written;
}

no_empty_text : (session : SessionView) (completed : Bool) → IsAloneText session true completed [] → ⊥
no_empty_text session completed text = never_empty session text.journal text.written

-- one thread doesn't begin with the crash of a role that isn't due
not_due_yet : (session : SessionView) → (IsDue (rules_of session) (start (roles_of session)) 0 → ⊥) → IsRunning (record { setup = session; entries = Crash 0 ∷ [] }) no_skip → ⊥
not_due_yet session not_due runs = not_due runs.steps.0.1.0

-- at most 20,000 entries are 20,002 turns; once it is opened one less, and behind an entry another
module _ (session : SessionView) (most : most_entries (rules_of session) ≡ 20000) where
  before : left_before session ≡ 20002
  before = ap (λ n. n + 2) most

  opened : left_behind (record { setup = session; entries = [] }) ≡ 20001
  opened = ap (λ n. (n + 1) - 0) most

  behind_one : left_behind (record { setup = session; entries = Crash 0 ∷ [] }) ≡ 20000
  behind_one = ap (λ n. (n + 1) - 1) most

-- nothing is left of a session that was written
none_left : (session : SessionView) → left_of session (Ends true (codes "completed\n")) ≡ 0
none_left session = refl

-- a job keeps the book of its own session
waits : (session : SessionView) → IsJob session true Waiting
waits session = tt

of_its_own : (book : BookView) (session : SessionView) → (book.setup ≡ session → ⊥) → IsJob session true (Running book) → ⊥
of_its_own book session other is = other is

-- two jobs: one has been written, and one has stopped
module _ (s t : SessionView) where
  abbrev new_jobs : List JobView
  new_jobs = job_of s true Waits ∷ job_of t false Waits ∷ []

  are_through : AreThrough new_jobs (job_of s true (Ends true []) ∷ job_of t false Stops ∷ [])
  are_through = (refl, same, through)
    where
      same : (i : ℕ) (d : JobView) → i < 2 → IsSameJob (slice_index_or new_jobs i d) (slice_index_or (job_of s true (Ends true []) ∷ job_of t false Stops ∷ []) i d)
      same zero d lt = (refl, refl)
      same (suc zero) d lt = (refl, refl)
      same (suc (suc i)) d lt = absurd (omega (arith, lt))

      through : (i : ℕ) (d : JobView) → i < 2 → IsThrough (slice_index_or (job_of s true (Ends true []) ∷ job_of t false Stops ∷ []) i d)
      through zero d lt = inl tt
      through (suc zero) d lt = inr tt
      through (suc (suc i)) d lt = absurd (omega (arith, lt))

  -- the second one runs still, or they have changed places
  second_runs : AreThrough new_jobs (job_of s true (Ends true []) ∷ job_of t false (Runs []) ∷ []) → ⊥
  second_runs through = ⊎_elim (λ e. e) (λ e. e) (through.2 1 (job_of s true Waits) (omega arith))

  are_exchanged : AreThrough new_jobs (job_of t false Stops ∷ job_of s true Stops ∷ []) → ⊥
  are_exchanged through = let form = (through.1 0 (job_of s true Waits) (omega arith)).1 in cc
