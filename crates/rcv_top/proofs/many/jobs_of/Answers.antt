-- The job of one session more.
use Rattle.std.proofs.Common.{◌+◌, sym, ap, subst}
use Rattle.rcv_jobs.specs.Jobs.{JobView}
use Rattle.rcv_later.specs.Later.{IsLaterOf}
use Rattle.rcv_top.specs.Sharing.{AreJobsOf}
use Rattle.rcv_top.proofs.Prepared.{one_job_more}
use Rattle.rcv_top.proofs.many.jobs_of.Goals as goal

pub loop-index-preserved : goal.loop-index-preserved
loop-index-preserved c =
    let is : IsLaterOf c.index-prepared-index.result.input c.index-prepared-index.result.by c.new.result.session =
    subst (λ (j : JobView). IsLaterOf c.index-prepared-index.result.input c.index-prepared-index.result.by j.session) (sym c.new.ensures) c.in-Some.ensures.some in
    subst (AreJobsOf c.args.json c.args.prepared.now (c.loop-index.index + 1)) (sym c.in_ok-push.ensures.items)
    (one_job_more c.args.json c.args.prepared.now c.loop-index.index c.index-prepared-index.result c.loop-index.jobs.items c.new.result
    c.loop-index-test.true c.index-prepared-index.is c.loop-index.invariant is (ap (λ (j : JobView). j.json) c.new.ensures))
