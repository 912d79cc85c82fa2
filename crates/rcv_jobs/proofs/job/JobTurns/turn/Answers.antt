-- Each turn that goes on leaves fewer: to open, to add an entry, to write.
use Rattle.std.proofs.Common.{rules, ◌≡◌, refl, sym, ◌∙◌, ap}
use Rattle.rcv_jobs.specs.declared.stage.Stage.{Stage}
use Rattle.rcv_jobs.specs.Jobs.{Waits, seen, job_of}
use Rattle.rcv_jobs.proofs.Turning.{less, less_running}
use Rattle.rcv_jobs.proofs.job.JobTurns.turn.Goals as goal

pub returns-in-Waiting-clause-fewer : goal.returns-in-Waiting-clause-fewer
returns-in-Waiting-clause-fewer g c = λ more.
    less c.args.self.now c.come_to.new.self c.self.inside.setup.now c.self.inside.json Waits (seen c.open-next.result) c.come_to.ensures.stage
    (sym c.self.view_is ∙ ap (λ (s : Stage). job_of c.self.inside.setup.now c.self.inside.json (seen s)) c.in-Waiting.is) c.open-next.ensures.fewer

pub returns-in_default-clause-fewer : goal.returns-in_default-clause-fewer
returns-in_default-clause-fewer g c =
    let session : c.in-Running.running.setup ≡ c.self.inside.setup.now = search rules in
    λ more. less_running c.args.self.now c.come_to-in-Running.new.self c.self.inside.setup.now c.self.inside.json c.in-Running.running c.in-Running.running (seen c.write-next.result) c.come_to-in-Running.ensures.stage
    (sym c.self.view_is ∙ ap (λ (s : Stage). job_of c.self.inside.setup.now c.self.inside.json (seen s)) c.in-Running.is) refl session c.write-next.ensures.fewer
