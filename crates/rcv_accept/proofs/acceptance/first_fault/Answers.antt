use Rattle.rcv_accept.proofs.Faults.{first_of_all}
use Rattle.rcv_accept.proofs.acceptance.first_fault.Goals as goal

pub returns : goal.returns
returns c body are =
    first_of_all body c.args.roles are.form c.fault_in_choices.result c.fault_in_rows.result c.earlier-found.result c.in_ok-first_unreached.field-0 c.earlier-or_unreached.result c.first_unending.result c.earlier.result (c.fault_in_choices.ensures body c.args.roles are) (c.fault_in_rows.ensures body are) c.earlier-found.ensures (c.in_ok-first_unreached.ensures body c.args.roles are) c.earlier-or_unreached.ensures (c.first_unending.ensures body c.args.roles are) c.earlier.ensures
