-- The points are those of the text.
use Rattle.std.proofs.Common.{◌∙◌, ap}
use Rattle.rcv_model.specs.Net.{Net}
use Rattle.rcv_model.specs.Text.{body_of}
use Rattle.rcv_points.proofs.Whole.{same_net}
use Rattle.rcv_json_reader.proofs.event.label.Goals as goal

pub returns : goal.returns
returns c =
    c.label.ensures ∙ ap (λ (n : Net). n.label c.args.point) (same_net (body_of c.args.accepted.now.protocol.body) _ c.points.result.now c.protocol-protocol.ensures.accepted.form c.points.ensures)
