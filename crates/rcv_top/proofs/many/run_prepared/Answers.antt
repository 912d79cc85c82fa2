-- The jobs that are through are those of the sessions that were prepared.
use Rattle.std.proofs.Common.{◌≡◌, ℕ, List, ◌++◌, length, take, drop, sym, ◌∙◌, ap, subst, arith}
use Rattle.std.proofs.Math.Seq.{take-append_seam}
use Rattle.rcv_jobs.specs.Jobs.{JobView, AreThrough}
use Rattle.rcv_top.specs.Sharing.{AreJobsOf, IsRunOfAll, IsRunOfPrepared}
use Rattle.rcv_top.proofs.Prepared.{through}
use Rattle.rcv_top.proofs.Writing.{widen}
use Rattle.rcv_top.proofs.many.run_prepared.Goals as goal

-- what a list holds whose elements were all written
taken_back : (n : ℕ) (new rest : List JobView) → n ≡ length new → take n (new ++ rest) ≡ new
taken_back n new rest count = ap (λ (k : ℕ). take k (new ++ rest)) count ∙ take-append_seam new rest

pub returns-clause-runs : goal.returns-clause-runs
returns-clause-runs g c =
    let old : c.as_mut_slice.result.now ≡ c.in_ok-jobs.jobs.items = c.as_mut_slice.ensures.value in
    let count : c.in_ok-jobs.jobs.len ≡ length c.run_jobs.new.jobs = (let len = c.as_mut_slice.ensures.len in let same = c.run_jobs.ensures.0 in omega (arith, len, same)) in
    let new : c.as_slice.result.now ≡ c.run_jobs.new.jobs = c.as_slice.ensures.value ∙ taken_back c.in_ok-jobs.jobs.len c.run_jobs.new.jobs (drop (length c.run_jobs.new.jobs) c.in_ok-jobs.jobs.items) count in
    let done : AreThrough c.in_ok-jobs.jobs.items c.run_jobs.new.jobs = subst (λ (js : List JobView). AreThrough js c.run_jobs.new.jobs) old c.run_jobs.ensures in
    let are : AreJobsOf c.args.json c.args.prepared.now (length c.args.prepared.now) c.as_slice.result.now =
    subst (AreJobsOf c.args.json c.args.prepared.now (length c.args.prepared.now)) (sym new) (through c.args.json c.args.prepared.now (length c.args.prepared.now) c.in_ok-jobs.jobs.items c.run_jobs.new.jobs c.in_ok-jobs.ensures done) in
    widen (g.K.Sink.written c.args.sink.now) (g.K.Sink.written c.write_journals_of.new.sink) (g.K.Sink.faults c.args.sink.now) (g.K.Sink.faults c.write_journals_of.new.sink)
    (IsRunOfAll c.args.json c.as_slice.result.now) (IsRunOfPrepared c.args.json c.args.prepared.now) c.write_journals_of.result
    (λ status bytes run. record { jobs = c.as_slice.result.now; are_jobs = are; is_run = run }) c.write_journals_of.ensures.writes
