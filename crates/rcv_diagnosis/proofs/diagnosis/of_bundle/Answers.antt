-- The session that is taken.
use Rattle.rcv_session.specs.Session.{SessionView}
use Rattle.rcv_diagnosis.proofs.Parting.{taken_found}
use Rattle.rcv_diagnosis.proofs.diagnosis.of_bundle.Goals as goal

pub returns-in-Ok : goal.returns-in-Ok
returns-in-Ok c =
    let session : SessionView = record { protocol = c.in-Ok.taken.accepted.protocol; scripts = c.in-Ok.taken.scripts.lines; plan = c.in-Ok.taken.plan } in
    taken_found c.of_session.result c.args.bundle.now c.args.text.now session c.args.feeds c.in-Ok.ensures.taken c.of_session.ensures
