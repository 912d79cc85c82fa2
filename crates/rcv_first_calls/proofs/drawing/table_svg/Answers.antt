-- The picture of the table of the session that the text was taken as.
use Rattle.rcv_session.specs.Session.{SessionView}
use Rattle.rcv_first_calls.proofs.drawing.table_svg.Goals as goal

pub returns : goal.returns
returns c =
    let session : SessionView = record { protocol = c.in_ok-taken.taken.accepted.protocol; scripts = c.in_ok-taken.taken.scripts.lines; plan = c.in_ok-taken.taken.plan } in
    (session, c.in_ok-table.table, c.in_ok-picture.picture, c.in_ok-taken.ensures.taken, c.in_ok-table.ensures, c.in_ok-picture.ensures, c.in_ok-picture_text.ensures)
