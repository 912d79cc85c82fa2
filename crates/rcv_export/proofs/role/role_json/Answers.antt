-- The machine's value has no float.
use Rattle.std.proofs.Common.{◌≡◌, false, sym, ◌∙◌, ap, subst}
use Rattle.std.proofs.lemmas.Result.{IfOk-weaker}
use Rattle.serde_json.specs.Data.{Data}
use Rattle.serde_json.specs.Written.{has_float}
use Rattle.rcv_accept.specs.Accepted.{net_for}
use Rattle.rcv_project.specs.Local.{IsLocalOf}
use Rattle.rcv_export.specs.Pieces.{line_of}
use Rattle.rcv_export.specs.RoleJson.{role_data}
use Rattle.rcv_export.proofs.Machines.{plain_machine}
use Rattle.rcv_export.proofs.Plain.{value_whole}
use Rattle.rcv_export.proofs.role.role_json.Goals as goal

pub machine_value-requires-clause-local : goal.machine_value-requires-clause-local
machine_value-requires-clause-local c = subst (λ r. IsLocalOf (net_for c.args.accepted.now) r c.args.local.now) (sym c.role.ensures) c.requires

pub line_of-requires : goal.line_of-requires
line_of-requires c = subst (λ (d : Data). has_float d ≡ false) (sym c.in_ok-value.ensures) (value_whole 100 (role_data c.args.accepted.now c.args.local.now) (plain_machine c.args.accepted.now c.args.local.now c.protocol-protocol.ensures.accepted c.requires))

pub returns : goal.returns
returns c = IfOk-weaker c.line_of.result _ _ (λ text e. e ∙ ap line_of c.in_ok-value.ensures) c.line_of.ensures
