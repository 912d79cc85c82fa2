-- The session is brought to its end, and what its book is then is written.
use Rattle.rcv_top.specs.Finishing.{FinishesAs}
use Rattle.rcv_top.specs.Running.{IsSessionRun}
use Rattle.rcv_top.proofs.Sessions.{ran}
use Rattle.rcv_top.proofs.Writing.{widen}
use Rattle.rcv_top.proofs.run.run_setup.Goals as goal

pub returns-clause-runs : goal.returns-clause-runs
returns-clause-runs g c =
    widen (g.K.Sink.written c.args.sink.now) (g.K.Sink.written c.finish.new.sink) (g.K.Sink.faults c.args.sink.now) (g.K.Sink.faults c.finish.new.sink)
    (FinishesAs c.args.workers c.args.json c.in_ok-session.session.book) (IsSessionRun c.args.workers c.args.json c.args.setup.now) c.finish.result
    (ran c.args.workers c.args.json c.args.setup.now c.in_ok-session.session c.requires.can_run c.in_ok-session.ensures)
    c.finish.ensures.finishes
