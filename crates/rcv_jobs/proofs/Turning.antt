-- Fewer turns are left at a later stage of a job.
use Rattle.std.proofs.Common.{◌≡◌, Bool, ◌<◌, sym, subst}
use Rattle.rcv_session.specs.Session.{SessionView}
use Rattle.rcv_core.specs.Book.{BookView}
use Rattle.rcv_jobs.specs.Left.{left_behind}
use Rattle.rcv_jobs.specs.Jobs.{JobView, StageView, Runs, left_of, job_of}

pub less : (old new : JobView) (s : SessionView) (json : Bool) (a b : StageView) → new ≡ job_of s json b → old ≡ job_of s json a → left_of s b < left_of s a
    → left_of new.session new.stage < left_of old.session old.stage
less old new s json a b e f l =
    subst (λ (j : JobView). left_of j.session j.stage < left_of old.session old.stage) (sym e)
    (subst (λ (j : JobView). left_of s b < left_of j.session j.stage) (sym f) l)

-- the book w is the one that ran
pub less_running : (old new : JobView) (s : SessionView) (json : Bool) (w r : BookView) (b : StageView) → new ≡ job_of s json b → old ≡ job_of s json (Runs r.entries) → w ≡ r → r.setup ≡ s
    → left_of w.setup b < left_behind w → left_of new.session new.stage < left_of old.session old.stage
less_running old new s json w r b e f same session l =
    let here : left_of r.setup b < left_behind r = subst (λ (x : BookView). left_of x.setup b < left_behind x) same l in
    less old new s json (Runs r.entries) b e f (subst (λ (z : SessionView). left_of z b < left_of z (Runs r.entries)) session here)
