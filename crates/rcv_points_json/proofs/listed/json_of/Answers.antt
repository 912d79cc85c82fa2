-- The points, and what is said of a refusal.
use Rattle.std.proofs.Common.{length, ◌∙◌, subst, sym}
use Rattle.rcv_model.specs.Text.{body_of}
use Rattle.rcv_accept.specs.Accepted.{IsRefusedBy}
use Rattle.rcv_input.specs.Input.{IsProtocolOf}
use Rattle.rcv_points_json.proofs.Said.{accepted_said, ruled_said}
use Rattle.rcv_points_json.proofs.listed.json_of.Goals as goal

pub accepted_json-requires-clause-accepted : goal.accepted_json-requires-clause-accepted
accepted_json-requires-clause-accepted c = record {
  text = subst (IsProtocolOf c.args.input.now) (sym c.in-Ok.ensures) c.requires.source.text;
  accepted = c.protocol-protocol.ensures.accepted;
}

pub returns-in-Ok : goal.returns-in-Ok
returns-in-Ok c = accepted_said c.args.input.now c.args.source.protocol c.in-Ok.accepted.protocol c.in_ok-points.points c.in_ok-roles.roles c.args.source.lines.items c.as_slice-2.result.now c.accepted_json.result
    c.requires.form c.in_ok-points.ensures c.in_ok-roles.ensures c.as_slice-2.ensures.value c.in-Ok.ensures c.protocol-protocol.ensures.accepted c.requires.source c.accepted_json.ensures

pub ruled_json-requires : goal.ruled_json-requires
ruled_json-requires c = (
  body_of c.args.source.protocol.body,
  length c.args.source.protocol.roles,
  subst (IsRefusedBy (body_of c.args.source.protocol.body) (length c.args.source.protocol.roles)) c.in-Err-Refused.field-0-is c.in-Err-Refused.ensures,
)

pub returns-in-Err-Refused : goal.returns-in-Err-Refused
returns-in-Err-Refused c = (
  c.args.source.protocol,
  c.args.source.lines.items,
  c.requires.source,
  ruled_said c.args.source.protocol c.in_ok-points.points c.as_slice-in-Err-Refused.result.now c.in_ok-roles.roles c.args.source.lines.items c.as_slice-2.result.now c.in_ok-text-in-Err-Refused.text.items c.in-Err-Refused.refusal
      c.requires.form c.in_ok-points.ensures (c.as_slice-in-Err-Refused.ensures.value ∙ c.in_ok-name.ensures.items ∙ c.as_slice.ensures) c.in_ok-roles.ensures c.as_slice-2.ensures.value
      (subst (IsRefusedBy (body_of c.args.source.protocol.body) (length c.args.source.protocol.roles)) c.in-Err-Refused.field-0-is c.in-Err-Refused.ensures)
      c.in_ok-text-in-Err-Refused.ensures,
)
