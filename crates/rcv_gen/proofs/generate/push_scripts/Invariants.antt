-- The scripts of the roles so far.
use Rattle.std.specs.Prelude.{◌≡◌, ◌++◌, string_bytes}
use Rattle.rcv_gen.specs.Generated.{scripts}
use Rattle.rcv_gen.proofs.generate.push_scripts.Given as goal

abbrev pub invariant-loop-before : goal.invariant-loop-before
invariant-loop-before l = string_bytes l.text ≡ string_bytes l.fn.text ++ scripts l.before
