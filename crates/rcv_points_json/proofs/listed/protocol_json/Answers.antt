-- The value has no float if what is refused has none.
use Rattle.std.proofs.Common.{◌≡◌, false, sym, ◌∙◌, ap, subst}
use Rattle.std.proofs.lemmas.Result.{IfOk-weaker}
use Rattle.serde_json.specs.Data.{Data}
use Rattle.serde_json.specs.View.{view}
use Rattle.serde_json.specs.Written.{has_float}
use Rattle.rcv_points.specs.Follow.{net_in}
use Rattle.rcv_export.specs.Pieces.{line_of}
use Rattle.rcv_points_json.proofs.Whole.{protocol_whole}
use Rattle.rcv_points_json.proofs.listed.protocol_json.Goals as goal

pub line_of-requires : goal.line_of-requires
line_of-requires c = subst (λ (d : Data). has_float d ≡ false) (sym c.in_ok-value.ensures)
    (protocol_whole c.args.name.now c.args.table.now.roles.now (net_in c.args.table.now.points.now) c.args.table.now.lines.now (view c.args.refused) c.requires)

pub returns : goal.returns
returns c = IfOk-weaker c.line_of.result _ _ (λ text e. e ∙ ap line_of c.in_ok-value.ensures) c.line_of.ensures
