-- What was read is what the input is taken as, and what is taken isn't refused.
use Rattle.std.proofs.Common.{subst}
use Rattle.rcv_input.specs.declared.refused.InputError.{InputError}
use Rattle.rcv_input.specs.Refusals.{IsRefused}
use Rattle.rcv_input.proofs.Once.{one_answer}
use Rattle.rcv_later.proofs.Laters.{is_later_of}
use Rattle.rcv_later.proofs.preparation.setup_of.Goals as goal

pub returns-in-Ok : goal.returns-in-Ok
returns-in-Ok c =
    is_later_of c.args.input.now c.args.by (record { protocol = c.in-Ok.taken.accepted.protocol; scripts = c.in-Ok.taken.scripts.lines; plan = c.in-Ok.taken.plan })
    c.later_setup.result c.in-Ok.ensures.taken c.later_setup.ensures

pub unreachable-requires : goal.unreachable-requires
unreachable-requires c =
    one_answer.either c.args.input.now c.requires.input.taken.0 c.in-Err-Refused.field-0-0 c.requires.input.taken.1
    (subst (λ (e : InputError). IsRefused c.args.input.now e) c.in-Err-Refused.field-0-is c.in-Err-Refused.ensures.taken)
