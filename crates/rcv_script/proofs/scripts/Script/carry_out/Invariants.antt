use Rattle.std.proofs.Common.{◌≡◌, drop}
use Rattle.rcv_checkpoint.specs.Changed.{IsChange}
use Rattle.rcv_script.specs.Acts.{set_by_all}
use Rattle.rcv_script.proofs.scripts.Script.carry_out.Given as goal

abbrev pub invariant-loop-line : goal.invariant-loop-line
invariant-loop-line l =
    (set_by_all l.self (drop l.line-index l.on) l.value l.vars ≡ set_by_all l.self l.on l.value l.fn.vars)
    × IsChange l.changed l.fn.vars l.vars
