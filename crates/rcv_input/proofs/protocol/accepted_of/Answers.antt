-- A rule that fails does so at a declared role.
use Rattle.std.proofs.Common.{subst, length}
use Rattle.rcv_model.specs.Text.{body_of}
use Rattle.rcv_accept.specs.Accepted.{IsRefusedBy}
use Rattle.rcv_input.proofs.Reading.{is_rule}
use Rattle.rcv_input.proofs.protocol.accepted_of.Goals as goal

pub ruled_out-requires : goal.ruled_out-requires
ruled_out-requires c = is_rule c.in_ok-roles.roles c.args.protocol c.in-Err-Refused.refusal c.in_ok-roles.ensures c.requires.form
    (subst (IsRefusedBy (body_of c.args.protocol.body) (length c.args.protocol.roles)) c.in-Err-Refused.field-0-is c.in-Err-Refused.ensures)
