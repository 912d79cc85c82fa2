-- The value has no float, and its line says the refusal.
use Rattle.std.proofs.Common.{◌≡◌, false, sym, ◌∙◌, ap, subst}
use Rattle.serde_json.specs.Data.{Data}
use Rattle.serde_json.specs.Written.{has_float}
use Rattle.rcv_export.specs.Pieces.{line_of}
use Rattle.rcv_points_json.specs.PointsJson.{no_protocol_data, unread_data}
use Rattle.rcv_points_json.proofs.Whole.{unread_whole, no_protocol_whole}
use Rattle.rcv_points_json.proofs.listed.unread_json.Goals as goal

pub line_of-requires : goal.line_of-requires
line_of-requires c = subst (λ (d : Data). has_float d ≡ false) (sym (c.in_ok-value.ensures ∙ ap no_protocol_data c.in_ok-refused.ensures))
    (no_protocol_whole (unread_data c.args.input.now c.in_ok-unread.unread) (unread_whole c.args.input.now c.in_ok-unread.unread))

pub returns : goal.returns
returns c = (
  c.in_ok-unread.unread,
  c.in_ok-unread.ensures.unread,
  c.in_ok-text.ensures ∙ ap line_of (c.in_ok-value.ensures ∙ ap no_protocol_data c.in_ok-refused.ensures),
)
