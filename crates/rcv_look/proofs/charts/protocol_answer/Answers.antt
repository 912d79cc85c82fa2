-- The session that is taken, or the first refusal.
use Rattle.std.proofs.Common.{◌≡◌, IfOk, subst}
use Rattle.rcv_tree.specs.declared.protocol.Protocol.{Protocol}
use Rattle.rcv_session.specs.Session.{SessionView}
use Rattle.rcv_look.specs.declared.status.Status.TheVariants.{Drawn}
use Rattle.rcv_look.specs.Commands.{DrawProtocol}
use Rattle.rcv_look.specs.Drawing.{IsProtocolDrawing}
use Rattle.rcv_look.proofs.Pictures.{chart_drawn, chart_refused}
use Rattle.rcv_look.proofs.charts.protocol_answer.Goals as goal

pub returns-in-Ok : goal.returns-in-Ok
returns-in-Ok c =
    let session : SessionView = record { protocol = c.in-Ok.taken.accepted.protocol; scripts = c.in-Ok.taken.scripts.lines; plan = c.in-Ok.taken.plan } in
    let drawn = subst (λ (p : Protocol). IfOk c.draw_protocol.result (λ output. (output.status ≡ Drawn) × IsProtocolDrawing p output.bytes.items)) c.protocol.ensures.value c.draw_protocol.ensures in
    chart_drawn c.draw_protocol.result DrawProtocol c.args.input.now session c.in-Ok.ensures.taken drawn

pub returns-in-Err : goal.returns-in-Err
returns-in-Err c = chart_refused c.refuse.result DrawProtocol c.args.input.now c.in-Err.error c.in-Err.ensures.taken c.refuse.ensures
