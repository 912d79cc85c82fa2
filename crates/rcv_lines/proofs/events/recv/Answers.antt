-- Field by field.
use Rattle.std.proofs.Common.{◌∷◌, [], codes, decimal}
use Rattle.rcv_journal.specs.Recorded.{bare}
use Rattle.rcv_lines.specs.Fields.{event_fields}
use Rattle.rcv_lines.proofs.Fielded.{last_field}
use Rattle.rcv_lines.proofs.Turns.{when_none}
use Rattle.rcv_lines.proofs.events.recv.Goals as goal

pub returns-in_err-sent-clause-none : goal.returns-in_err-sent-clause-none
returns-in_err-sent-clause-none c = when_none c.from_residual-in_err-sent.result (λ e formed is. c.in_err-sent.ensures.none e.sent formed.sent (last_field c.args.fields.now c.in_ok-last.front.now c.in_ok-last.last.now (event_fields (bare c.args.accepted.now.protocol) (codes "recv") e []) (60 ∷ decimal e.sent) c.in_ok-last.ensures.cases.0 is).1)

pub returns-in_err-event-clause-none : goal.returns-in_err-event-clause-none
returns-in_err-event-clause-none c = when_none c.from_residual-in_err-event.result (λ e formed is. c.in_err-event.ensures.none e formed (last_field c.args.fields.now c.in_ok-last.front.now c.in_ok-last.last.now (event_fields (bare c.args.accepted.now.protocol) (codes "recv") e []) (60 ∷ decimal e.sent) c.in_ok-last.ensures.cases.0 is).0)
