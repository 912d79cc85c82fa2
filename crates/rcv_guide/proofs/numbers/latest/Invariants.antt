use Rattle.std.proofs.Common.{◌≡◌, drop}
use Rattle.std.specs.Prelude.{max}
use Rattle.rcv_guide.specs.Numbers.{latest_from}
use Rattle.rcv_guide.proofs.numbers.latest.Given as goal

abbrev pub invariant-loop-role : goal.invariant-loop-role
invariant-loop-role l = max l.latest (latest_from l.roles.0 l.role (drop l.role l.numbers)) ≡ latest_from l.roles.0 0 l.numbers
