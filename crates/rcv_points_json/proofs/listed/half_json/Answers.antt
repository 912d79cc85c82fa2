-- What refuses it has no float.
use Rattle.std.proofs.Common.{◌≡◌, false, sym, ◌∙◌, ap, subst}
use Rattle.std.proofs.lemmas.Result.{IfOk-weaker}
use Rattle.serde_json.specs.Data.{Data}
use Rattle.serde_json.specs.Written.{has_float}
use Rattle.rcv_points.specs.Follow.{net_in}
use Rattle.rcv_export.specs.Pieces.{line_of}
use Rattle.rcv_points_json.specs.PointsJson.{protocol_data}
use Rattle.rcv_points_json.proofs.Whole.{unread_whole}
use Rattle.rcv_points_json.proofs.listed.half_json.Goals as goal

pub protocol_json-requires : goal.protocol_json-requires
protocol_json-requires c = subst (λ (d : Data). has_float d ≡ false) (sym c.in_ok-refused.ensures) (unread_whole c.args.input.now c.args.unread.now)

pub returns : goal.returns
returns c = IfOk-weaker c.protocol_json.result _ _
    (λ text e. e ∙ ap (λ (d : Data). line_of (protocol_data c.args.name.now c.args.table.now.roles.now (net_in c.args.table.now.points.now) c.args.table.now.lines.now d)) c.in_ok-refused.ensures)
    c.protocol_json.ensures
