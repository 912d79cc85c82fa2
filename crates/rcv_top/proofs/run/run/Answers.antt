-- The setup is that of what was taken.
use Rattle.std.proofs.Common.{sym, subst}
use Rattle.rcv_session.specs.Session.{SessionView}
use Rattle.rcv_top.specs.Running.{CanRun, IsSessionRun}
use Rattle.rcv_top.specs.Writing.{Writes}
use Rattle.rcv_top.proofs.run.run.Goals as goal

pub returns-clause-runs : goal.returns-clause-runs
returns-clause-runs g c =
    subst (λ (s : SessionView). Writes (IsSessionRun c.args.workers c.args.json s) (g.K.Sink.written c.args.sink.now) (g.K.Sink.written c.run_setup.new.sink) (g.K.Sink.faults c.args.sink.now) (g.K.Sink.faults c.run_setup.new.sink) c.run_setup.result)
    c.in_ok-setup.ensures c.run_setup.ensures.runs

pub run_setup-requires-clause-can_run : goal.run_setup-requires-clause-can_run
run_setup-requires-clause-can_run g c coded lives = subst CanRun (sym c.in_ok-setup.ensures) c.requires.can_run
