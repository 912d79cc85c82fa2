use Rattle.std.proofs.Common.{◌≡◌, drop}
use Rattle.std.specs.List.{list_any}
use Rattle.rcv_script.specs.Labels.{is_meant}
use Rattle.rcv_script.proofs.labels.has_message.Given as goal

abbrev pub invariant-loop-number : goal.invariant-loop-number
invariant-loop-number l =
    list_any (is_meant l.role l.label l.received l.bare) (drop l.number l.points.messages)
    ≡ list_any (is_meant l.role l.label l.received l.bare) l.points.messages
