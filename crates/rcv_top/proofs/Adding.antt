-- The journals of jobs: one more, and all.
use Rattle.std.proofs.Common.{◌≡◌, ℕ, ◌+◌, ◌<◌, ◌≤◌, Bool, true, false, List, [], ◌∷◌, ◌++◌, length, refl, sym, ◌∙◌, ap, subst, ⊎_elim, arith, slice_index_or, length-append}
use Rattle.std.specs.Prelude.{if◌then◌else◌, ◌||◌}
use Rattle.std.specs.List.{list_any}
use Rattle.std.proofs.lemmas.Bool.{cases_lt}
use Rattle.std.proofs.lemmas.List.{get_or_append_left, get_or_default, get_or_push, map-append}
use Rattle.std.proofs.lemmas.List.Folds.{list_any-append}
use Rattle.rcv_session.specs.Session.{SessionView}
use Rattle.rcv_joined.specs.Joined.{joined}
use Rattle.rcv_jobs.specs.Jobs.{JobView}
use Rattle.rcv_jobs.specs.Texts.{IsAloneText}
use Rattle.rcv_top.specs.declared.journals.Journals.{Journals}
use Rattle.rcv_top.specs.declared.status.Status.{Status}
use Rattle.rcv_top.specs.declared.status.Status.TheVariants.{Completed, Limited}
use Rattle.rcv_top.specs.Many.{OneRun, is_limited, ended_as}
use Rattle.rcv_top.specs.Sharing.{AreAs, IsJobRun, HasOneMore, AreJournalsOf, IsRunOfAll, lent}

-- ---- one

abbrev status_by : Bool → Status
status_by completed = if completed then Completed else Limited

abbrev run_by : Bool → List ℕ → OneRun
run_by completed text = record { status = status_by completed; bytes = text }

-- the text of a job is that of its run
job_run : (session : SessionView) (json completed : Bool) (text : List ℕ) → IsAloneText session json completed text → IsJobRun json session (run_by completed text)
job_run session json completed text is = record { completed = completed; text = is; status_is = refl }

-- ---- one more

ended_by : (completed limited : Bool) → (if completed then (if limited then Limited else Completed) else Limited) ≡ (if limited || (is_limited (run_by completed []) || false) then Limited else Completed)
ended_by true true = refl
ended_by true false = refl
ended_by false true = refl
ended_by false false = refl

-- how all end with one more
ended_more : (completed : Bool) (text : List ℕ) (runs : List OneRun) → (if completed then ended_as runs else Limited) ≡ ended_as (runs ++ run_by completed text ∷ [])
ended_more completed text runs =
    ended_by completed (list_any is_limited runs) ∙ ap (λ (b : Bool). if b then Limited else Completed) (sym (list_any-append is_limited runs (run_by completed text ∷ [])))

-- the last one, or one of those before
each_more : (jobs : List JobView) (k : ℕ) (job : JobView) (runs : List OneRun) (run : OneRun) → length runs ≡ k → k < length jobs → job ≡ slice_index_or jobs k job
    → ((i : ℕ) (j : JobView) (d : OneRun) → i < k → IsJobRun (slice_index_or jobs i j).json (slice_index_or jobs i j).session (slice_index_or runs i d))
    → IsJobRun job.json job.session run
    → (i : ℕ) (j : JobView) (d : OneRun) → i < k + 1 → IsJobRun (slice_index_or jobs i j).json (slice_index_or jobs i j).session (slice_index_or (runs ++ run ∷ []) i d)
each_more jobs k job runs run count lt so each last i j d inside = ⊎_elim before here (cases_lt i k)
  where
    before : i < k → IsJobRun (slice_index_or jobs i j).json (slice_index_or jobs i j).session (slice_index_or (runs ++ run ∷ []) i d)
    before less = subst (λ (r : OneRun). IsJobRun (slice_index_or jobs i j).json (slice_index_or jobs i j).session r) (sym (get_or_append_left runs (run ∷ []) d i (omega (arith, less, count)))) (each i j d less)

    here : k ≤ i → IsJobRun (slice_index_or jobs i j).json (slice_index_or jobs i j).session (slice_index_or (runs ++ run ∷ []) i d)
    here past =
        let same : k ≡ i = omega (arith, past, inside) in
        let is_job : job ≡ slice_index_or jobs i j = so ∙ get_or_default jobs k job j lt ∙ ap (λ (n : ℕ). slice_index_or jobs n j) same in
        subst (λ (r : OneRun). IsJobRun (slice_index_or jobs i j).json (slice_index_or jobs i j).session r) (sym (get_or_push runs run d i (count ∙ same)))
        (subst (λ (x : JobView). IsJobRun x.json x.session run) is_job last)

pub no_journals : (jobs : List JobView) (all : Journals) → all.status ≡ Completed → lent all ≡ [] → AreJournalsOf jobs 0 all
no_journals jobs all completed empty = record { runs = []; count = refl; each = λ i j d lt. absurd (omega (arith, lt)); status_is = completed; texts_are = empty }

pub one_journal_more : (jobs : List JobView) (k : ℕ) (job : JobView) (old new : Journals) → k < length jobs → job ≡ slice_index_or jobs k job → AreJournalsOf jobs k old → HasOneMore job old new → AreJournalsOf jobs (k + 1) new
one_journal_more jobs k job old new lt so all more = record {
  runs = all.runs ++ run_by more.completed more.text ∷ [];
  count = let count = all.count in omega (arith, count, length-append all.runs (run_by more.completed more.text ∷ []));
  each = each_more jobs k job all.runs (run_by more.completed more.text) all.count lt so all.each (job_run job.session job.json more.completed more.text more.is_text);
  status_is = more.status_is ∙ ap (λ (s : Status). if more.completed then s else Limited) all.status_is ∙ ended_more more.completed more.text all.runs;
  texts_are = more.texts_are ∙ ap (λ (l : List (List ℕ)). l ++ more.text ∷ []) all.texts_are ∙ sym (map-append (λ (r : OneRun). r.bytes) all.runs (run_by more.completed more.text ∷ []));
}

-- ---- all

pub all_run : (json : Bool) (jobs : List JobView) (all : Journals) → AreAs json jobs → AreJournalsOf jobs (length jobs) all → IsRunOfAll json jobs all.status (joined json 0 (lent all))
all_run json jobs all form is = record {
  runs = is.runs;
  are_runs = record {
    count = is.count;
    each = λ i j d lt. subst (λ (b : Bool). IsJobRun b (slice_index_or jobs i j).session (slice_index_or is.runs i d)) (form i j lt) (is.each i j d lt);
  };
  status_is = is.status_is;
  bytes_are = ap (joined json 0) is.texts_are;
}
