-- The points say what the text says.
use Rattle.std.proofs.Common.{◌∙◌, sym, ap, subst}
use Rattle.rcv_model.specs.Net.{Net}
use Rattle.rcv_points.proofs.Whole.{same_net}
use Rattle.rcv_accept.specs.Accepted.{text_of, roles_of}
use Rattle.rcv_tables.specs.Rows.{IsTable}
use Rattle.rcv_charts.specs.RowTitles.{table_titles}
use Rattle.rcv_charts.proofs.table.table_picture.Goals as goal

pub drawn-requires-clause-table : goal.drawn-requires-clause-table
drawn-requires-clause-table c = subst (λ (net : Net). IsTable net (roles_of c.args.accepted.now) c.args.table.now) (sym (same_net (text_of c.args.accepted.now) (roles_of c.args.accepted.now) c.points-points.result.now c.protocol-protocol.ensures.accepted.form c.points-points.ensures)) c.requires

pub returns : goal.returns
returns c =
    c.in_ok-picture.ensures ∙ c.in_ok-drawing.ensures ∙ ap (λ (net : Net). table_titles net c.args.accepted.now.protocol.roles c.args.table.now) (same_net (text_of c.args.accepted.now) (roles_of c.args.accepted.now) c.points-points.result.now c.protocol-protocol.ensures.accepted.form c.points-points.ensures)
