-- What jobs make of the sessions that were prepared is what several sessions of the input come to.
use Rattle.std.proofs.Common.{◌≡◌, ℕ, ◌+◌, ◌<◌, Bool, List, [], ◌∷◌, ◌++◌, length, refl, sym, ◌∙◌, ap, subst, inr, ⊎_elim, arith, slice_index_or, length-append}
use Rattle.std.proofs.lemmas.Bool.{cases_lt}
use Rattle.std.proofs.lemmas.List.{get_or_append_left, get_or_default, get_or_push}
use Rattle.rcv_session.specs.Session.{SessionView}
use Rattle.rcv_input.specs.Input.{IsTaken}
use Rattle.rcv_input.specs.Laws.{AreSame}
use Rattle.rcv_input.proofs.Once.{one_answer}
use Rattle.rcv_jobs.specs.Jobs.{JobView, Waits as waiting, job_of, IsSameJob, AreThrough}
use Rattle.rcv_later.specs.Later.{later, IsLaterOf}
use Rattle.rcv_later.proofs.Laters.{later_same}
use Rattle.rcv_later.specs.Preparing.{PreparationView, Waits, preparation_of, IsPrepared, ArePrepared}
use Rattle.rcv_top.specs.declared.status.Status.{Status}
use Rattle.rcv_top.specs.Many.{OneRun, IsOneRun, IsTooMuch, IsManyRun, IsRunOfMany}
use Rattle.rcv_top.specs.Sharing.{AreJobsOf, IsJobRun, IsRunOfAll, IsRunOfPrepared}
use Rattle.rcv_top.proofs.Rooms.{taken_sessions_can_run}
use Rattle.rcv_top.proofs.Runs.{job_moves}

-- one job more
pub no_jobs : (json : Bool) (prepared : List PreparationView) → AreJobsOf json prepared 0 []
no_jobs json prepared = record { count = refl; as_json = λ i d lt. absurd (omega (arith, lt)); each = λ i p d lt. absurd (omega (arith, lt)) }

pub one_job_more : (json : Bool) (prepared : List PreparationView) (k : ℕ) (p : PreparationView) (jobs : List JobView) (job : JobView) → k < length prepared → p ≡ slice_index_or prepared k p → AreJobsOf json prepared k jobs
    → IsLaterOf p.input p.by job.session → job.json ≡ json → AreJobsOf json prepared (k + 1) (jobs ++ job ∷ [])
one_job_more json prepared k p jobs job lt so are is form = record {
  count = let count = are.count in omega (arith, count, length-append jobs (job ∷ []));
  as_json = λ i d inside. ⊎_elim
      (λ less. ap (λ (j : JobView). j.json) (before i d less) ∙ are.as_json i d (let count = are.count in omega (arith, less, count)))
      (λ past. ap (λ (j : JobView). j.json) (here i d (let count = are.count in omega (arith, past, inside, count, length-append jobs (job ∷ [])))) ∙ form)
      (cases_lt i k);
  each = λ i q d inside. ⊎_elim
      (λ less. subst (λ (j : JobView). IsLaterOf (slice_index_or prepared i q).input (slice_index_or prepared i q).by j.session) (sym (before i d less)) (are.each i q d less))
      (λ past.
      let same : k ≡ i = omega (arith, past, inside) in
      let at : p ≡ slice_index_or prepared i q = so ∙ get_or_default prepared k p q lt ∙ ap (λ (n : ℕ). slice_index_or prepared n q) same in
      subst (λ (j : JobView). IsLaterOf (slice_index_or prepared i q).input (slice_index_or prepared i q).by j.session) (sym (here i d same))
      (subst (λ (x : PreparationView). IsLaterOf x.input x.by job.session) at is))
      (cases_lt i k);
}
  where
    before : (i : ℕ) (d : JobView) → i < k → slice_index_or (jobs ++ job ∷ []) i d ≡ slice_index_or jobs i d
    before i d less = get_or_append_left jobs (job ∷ []) d i (let count = are.count in omega (arith, less, count))

    here : (i : ℕ) (d : JobView) → k ≡ i → slice_index_or (jobs ++ job ∷ []) i d ≡ job
    here i d same = get_or_push jobs job d i (are.count ∙ same)

-- jobs that are through are of the same sessions
pub through : (json : Bool) (prepared : List PreparationView) (k : ℕ) (old new : List JobView) → AreJobsOf json prepared k old → AreThrough old new → AreJobsOf json prepared k new
through json prepared k old new are done = record {
  count = done.0 ∙ are.count;
  as_json = λ i d lt. (kept i d (inside i lt)).1 ∙ are.as_json i d (inside i lt);
  each = λ i p d lt.
      subst (λ (s : SessionView). IsLaterOf (slice_index_or prepared i p).input (slice_index_or prepared i p).by s) (sym (kept i d (let count = are.count in omega (arith, lt, count))).0) (are.each i p d lt);
}
  where
    inside : (i : ℕ) → i < length new → i < length old
    inside i lt = let count = done.0 in omega (arith, lt, count)

    kept : (i : ℕ) (d : JobView) → i < length old → IsSameJob (slice_index_or old i d) (slice_index_or new i d)
    kept i d lt = done.1 i d lt

-- the run of a session that was prepared is that of the session of the input
moves_to : (json : Bool) (input : List ℕ) (session : SessionView) (i : ℕ) (t : SessionView) (run : OneRun) → IsTaken input session → IsLaterOf input i t → IsJobRun json t run → IsOneRun json (later session i) run
moves_to json input session i t run taken of is =
    let same : AreSame of.session session = one_answer.sessions input of.session session of.taken taken in
    job_moves json (later of.session i) (later session i) run ((taken_sessions_can_run input session taken).1 i) (later_same of.session session i same)
    (subst (λ (s : SessionView). IsJobRun json s run) of.is_later is)

pub prepared_run : (n : ℕ) (json : Bool) (input : List ℕ) (session : SessionView) (prepared : List PreparationView) (status : Status) (bytes : List ℕ) → IsTaken input session → ArePrepared input n prepared
    → IsRunOfPrepared json prepared status bytes → IsManyRun n json session status bytes
prepared_run n json input session prepared status bytes taken are run = record {
  runs = all.runs;
  are_runs = record { count = all.are_runs.count ∙ run.are_jobs.count ∙ are.count; each = each };
  status_is = all.status_is;
  bytes_are = all.bytes_are;
}
  where
    all : IsRunOfAll json run.jobs status bytes
    all = run.is_run

    job : ℕ → JobView
    job i = slice_index_or run.jobs i (job_of session json waiting)

    prepared_at : ℕ → PreparationView
    prepared_at i = slice_index_or prepared i (preparation_of input i Waits)

    is_later : (i : ℕ) → i < n → IsLaterOf input i (job i).session
    is_later i lt =
        let is : IsPrepared input i (prepared_at i) = are.each i (preparation_of input i Waits) lt in
        subst (λ (j : ℕ). IsLaterOf input j (job i).session) is.by_is
        (subst (λ (x : List ℕ). IsLaterOf x (prepared_at i).by (job i).session) is.input_is
        (run.are_jobs.each i (preparation_of input i Waits) (job_of session json waiting) (let count = are.count in omega (arith, lt, count))))

    each : (i : ℕ) (d : OneRun) → i < n → IsOneRun json (later session i) (slice_index_or all.runs i d)
    each i d lt =
        let inside : i < length run.jobs = let jobs = run.are_jobs.count in let count = are.count in omega (arith, lt, jobs, count) in
        moves_to json input session i (job i).session (slice_index_or all.runs i d) taken (is_later i lt) (all.are_runs.each i (job_of session json waiting) d inside)

-- and that is what they come to, where they aren't too much
pub come_to : (n : ℕ) (json : Bool) (input : List ℕ) (session : SessionView) (prepared : List PreparationView) (status : Status) (bytes : List ℕ) → IsTaken input session → ArePrepared input n prepared → (IsTooMuch n session → ⊥)
    → IsRunOfPrepared json prepared status bytes → IsRunOfMany n json session status bytes
come_to n json input session prepared status bytes taken are few run = inr (record { fits = few; many_run = prepared_run n json input session prepared status bytes taken are run })
