-- What is taken of a bundle says one thing.
use Rattle.rcv_session.specs.Session.{SessionView}
use Rattle.std.proofs.lemmas.Result.{IfOk-weaker}
use Rattle.rcv_look.proofs.Guided.{fresh, same}
use Rattle.rcv_look.proofs.told.guide_of.Goals as goal

pub returns-in-Ok-clause-fresh : goal.returns-in-Ok-clause-fresh
returns-in-Ok-clause-fresh c =
    let other : SessionView = record { protocol = c.in-Ok.taken.accepted.protocol; scripts = c.in-Ok.taken.scripts.lines; plan = c.in-Ok.taken.plan } in
    IfOk-weaker c.new.result _ _ (λ guide is. fresh c.args.bundle.now c.args.setup.now other c.requires.taken c.in-Ok.ensures.taken c.args.room guide is) c.new.ensures

pub returns-in-Ok-clause-same : goal.returns-in-Ok-clause-same
returns-in-Ok-clause-same c =
    let other : SessionView = record { protocol = c.in-Ok.taken.accepted.protocol; scripts = c.in-Ok.taken.scripts.lines; plan = c.in-Ok.taken.plan } in
    IfOk-weaker c.new.result _ _ (λ guide is. same c.args.bundle.now c.args.setup.now other c.requires.taken c.in-Ok.ensures.taken c.args.room guide is) c.new.ensures
