use Rattle.std.proofs.Common.{◌≡◌, drop, map}
use Rattle.rcv_model.specs.Script.{pick}
use Rattle.rcv_script.specs.Scripts.{net_by}
use Rattle.rcv_script.specs.Lines.{line_of}
use Rattle.rcv_script.proofs.scripts.Script.pick.Given as goal

abbrev pub invariant-loop-line : goal.invariant-loop-line
invariant-loop-line l =
    pick (net_by l.messages) (map line_of (drop l.line-index l.line-items)) l.vars l.attempt l.offered ≡ pick (net_by l.messages) (map line_of l.line-items) l.vars l.attempt l.offered
