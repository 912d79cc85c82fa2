-- The session that is taken, or the first refusal.
use Rattle.rcv_session.specs.Session.{SessionView}
use Rattle.rcv_look.specs.Commands.{ExportTable}
use Rattle.rcv_look.proofs.Pictures.{chart_drawn, chart_refused}
use Rattle.rcv_look.proofs.exports.table_json_answer.Goals as goal

pub returns-in-Ok : goal.returns-in-Ok
returns-in-Ok c =
    let session : SessionView = record { protocol = c.in-Ok.taken.accepted.protocol; scripts = c.in-Ok.taken.scripts.lines; plan = c.in-Ok.taken.plan } in
    chart_drawn c.write_table.result ExportTable c.args.input.now session c.in-Ok.ensures.taken c.write_table.ensures

pub returns-in-Err : goal.returns-in-Err
returns-in-Err c = chart_refused c.refuse.result ExportTable c.args.input.now c.in-Err.error c.in-Err.ensures.taken c.refuse.ensures
