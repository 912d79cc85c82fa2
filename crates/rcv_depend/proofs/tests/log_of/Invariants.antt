use Rattle.std.proofs.Common.{◌≡◌, take}
use Rattle.rcv_model.specs.Journal.{events_of}
use Rattle.rcv_depend.proofs.tests.log_of.Given as goal

abbrev pub invariant-loop-number : goal.invariant-loop-number
invariant-loop-number l = l.log.items ≡ events_of l.role (take l.number l.events)
