-- The points, and what is said of a refusal.
use Rattle.std.proofs.Common.{◌++◌, length, ◌∙◌, ap, subst, sym}
use Rattle.rcv_model.specs.Text.{body_of}
use Rattle.rcv_points.specs.Follow.{net_in}
use Rattle.rcv_accept.specs.Accepted.{IsRefusedBy}
use Rattle.rcv_input.specs.Input.{IsProtocolOf}
use Rattle.rcv_listing.specs.Lines.{all_text}
use Rattle.rcv_listing.proofs.Ruled.{is_rule_in, all_told, ruled, if_listed_of}
use Rattle.rcv_listing.proofs.listing.listing_of.Goals as goal

pub listed-requires-clause-accepted : goal.listed-requires-clause-accepted
listed-requires-clause-accepted c = record {
  text = subst (IsProtocolOf c.args.input.now) (sym c.in-Ok.ensures) c.requires.source.text;
  accepted = c.protocol-protocol.ensures.accepted;
}

pub returns-in-Ok : goal.returns-in-Ok
returns-in-Ok c = if_listed_of c.args.input.now c.args.source.protocol c.in-Ok.accepted.protocol c.args.source.lines.items c.write_all.new.text c.listed.result
    c.in-Ok.ensures c.protocol-protocol.ensures.accepted
    (all_told c.args.source.protocol c.in_ok-points.points c.in_ok-roles.roles c.args.source.lines.items c.as_slice.result.now c.write_all.new.text c.requires.form c.in_ok-points.ensures c.in_ok-roles.ensures c.as_slice.ensures.value
    (c.in_ok-write_all.ensures ∙ ap (λ t. t ++ all_text c.in_ok-roles.roles (net_in c.in_ok-points.points) c.as_slice.result.now) c.new-text.ensures))
    c.listed.ensures

pub write_refusal-requires : goal.write_refusal-requires
write_refusal-requires c =
    is_rule_in c.args.source.protocol c.in_ok-points.points c.in-Err-Refused.refusal c.requires.form c.in_ok-points.ensures
    (subst (IsRefusedBy (body_of c.args.source.protocol.body) (length c.args.source.protocol.roles)) c.in-Err-Refused.field-0-is c.in-Err-Refused.ensures)

pub returns-in-Err-Refused : goal.returns-in-Err-Refused
returns-in-Err-Refused c =
    ruled c.args.source.protocol c.in_ok-points.points c.in_ok-roles.roles c.args.source.lines.items c.as_slice.result.now c.write_all.new.text c.write_refusal.new.text c.finish.result.items c.in-Err-Refused.refusal c.requires.form c.in_ok-points.ensures c.in_ok-roles.ensures c.as_slice.ensures.value
    (subst (IsRefusedBy (body_of c.args.source.protocol.body) (length c.args.source.protocol.roles)) c.in-Err-Refused.field-0-is c.in-Err-Refused.ensures)
    (c.in_ok-write_all.ensures ∙ ap (λ t. t ++ all_text c.in_ok-roles.roles (net_in c.in_ok-points.points) c.as_slice.result.now) c.new-text.ensures)
    c.in_ok-write_refusal-in-Err-Refused.ensures c.finish.ensures
