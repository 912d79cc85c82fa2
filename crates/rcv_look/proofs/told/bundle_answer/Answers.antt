-- The session that is taken, or the bundle's first refusal.
use Rattle.rcv_session.specs.Session.{SessionView}
use Rattle.rcv_look.proofs.Guided.{taken_said, refused_said}
use Rattle.rcv_look.proofs.told.bundle_answer.Goals as goal

pub returns-in_ok-setup-in-Ok : goal.returns-in_ok-setup-in-Ok
returns-in_ok-setup-in-Ok c =
    let session : SessionView = record { protocol = c.in-Ok.taken.accepted.protocol; scripts = c.in-Ok.taken.scripts.lines; plan = c.in-Ok.taken.plan } in
    taken_said c.text_answer.result c.args.bundle.now c.args.text.now session c.in_ok-setup-in-Ok.setup c.args.feeds c.in_ok-setup-in-Ok.ensures c.in-Ok.ensures.taken c.text_answer.ensures

pub returns-in-Err : goal.returns-in-Err
returns-in-Err c = refused_said c.refuse.result c.args.bundle.now c.args.text.now c.args.feeds c.in-Err.error c.in-Err.ensures.taken c.refuse.ensures
