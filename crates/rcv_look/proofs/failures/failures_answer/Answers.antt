-- The session that is taken, or the first refusal.
use Rattle.std.proofs.Common.{subst}
use Rattle.rcv_session.specs.Session.{SessionView}
use Rattle.rcv_look.specs.Outcome.{Draws, failures_as}
use Rattle.rcv_look.proofs.Making.{Makes}
use Rattle.rcv_look.proofs.Pictures.{chart_drawn, chart_refused}
use Rattle.rcv_look.proofs.failures.failures_answer.Goals as goal

pub returns-in_ok-setup-in-Ok : goal.returns-in_ok-setup-in-Ok
returns-in_ok-setup-in-Ok c =
    let session : SessionView = record { protocol = c.in-Ok.taken.accepted.protocol; scripts = c.in-Ok.taken.scripts.lines; plan = c.in-Ok.taken.plan } in
    chart_drawn c.show_failures.result (failures_as c.args.form) c.args.input.now session c.in-Ok.ensures.taken
    (subst (λ (s : SessionView). Makes (Draws s (failures_as c.args.form)) c.show_failures.result) c.in_ok-setup-in-Ok.ensures c.show_failures.ensures)

pub returns-in-Err : goal.returns-in-Err
returns-in-Err c = chart_refused c.refuse.result (failures_as c.args.form) c.args.input.now c.in-Err.error c.in-Err.ensures.taken c.refuse.ensures
