-- The session that the text is taken as, or the text's first refusal.
use Rattle.std.proofs.Common.{subst}
use Rattle.rcv_session.specs.Session.{SessionView}
use Rattle.rcv_input.specs.Refusals.{IsRefused}
use Rattle.rcv_first_calls.proofs.reading.role_count.Goals as goal

pub returns-in-Ok : goal.returns-in-Ok
returns-in-Ok c =
    let session : SessionView = record { protocol = c.in-Ok.taken.accepted.protocol; scripts = c.in-Ok.taken.scripts.lines; plan = c.in-Ok.taken.plan } in
    (session, c.in-Ok.ensures.taken, c.roles.ensures)

pub returns-in-Err-Refused : goal.returns-in-Err-Refused
returns-in-Err-Refused c = (c.in-Err-Refused.field-0-0, subst (IsRefused c.args.input.now) c.in-Err-Refused.field-0-is c.in-Err-Refused.ensures.taken)
