use Rattle.std.proofs.Common.{◌≡◌, drop}
use Rattle.rcv_model.specs.Script.{first_with}
use Rattle.rcv_script.specs.Scripts.{net_by}
use Rattle.rcv_script.proofs.scripts.first_with.Given as goal

abbrev pub invariant-loop-point : goal.invariant-loop-point
invariant-loop-point l =
    first_with (net_by l.messages) l.label (drop l.point-index l.offered) ≡ first_with (net_by l.messages) l.label l.offered
