-- The session that is taken, or the bundle's first refusal.
use Rattle.std.proofs.Common.{◌≡◌, inl, refl, sym, ap, subst}
use borrow.Enum.Total.{values_d}
use Rattle.rcv_input.specs.contracts.refused.InputError as errors
use Rattle.rcv_input.specs.declared.refused.InputError.{InputError}
use Rattle.rcv_replay.specs.declared.replayed.Replayed.TheVariants.{Refused}
use Rattle.rcv_session.specs.Session.{SessionView}
use Rattle.rcv_input.specs.Refusals.{IsRefused}
use Rattle.rcv_replay.proofs.Judging.{taken_said}
use Rattle.rcv_replay.proofs.replay.of_bundle.Goals as goal

pub returns-in-Ok : goal.returns-in-Ok
returns-in-Ok c =
    let session : SessionView = record { protocol = c.in-Ok.taken.accepted.protocol; scripts = c.in-Ok.taken.scripts.lines; plan = c.in-Ok.taken.plan } in
    taken_said c.of_text.result c.args.bundle.now c.args.text.now session c.args.feeds c.in-Ok.ensures.taken c.of_text.ensures

pub returns-in-Err-Refused : goal.returns-in-Err-Refused
returns-in-Err-Refused c =
    let same = subst (λ (e : InputError). (values_d errors.enum 0 (c.in-Err-Refused.refused, tt) e).0 ≡ c.in-Err-Refused.refused) (sym c.in-Err-Refused.field-0-is) refl in
    inl (c.in-Err-Refused.refused, ap Refused same, subst (IsRefused c.args.bundle.now) c.in-Err-Refused.field-0-is c.in-Err-Refused.ensures.taken)
