-- The points say what the text says.
use Rattle.std.proofs.Common.{◌∙◌, ap}
use Rattle.rcv_model.specs.Net.{Net}
use Rattle.rcv_project.proofs.Machine.{says_text}
use Rattle.rcv_export.proofs.text.sender.Goals as goal

pub returns : goal.returns
returns c =
    let same = says_text c.args.accepted.now c.points.result.now c.protocol-protocol.ensures.accepted c.points.ensures in
    c.sender.ensures ∙ ap (λ (net : Net). net.sender c.args.point) same
