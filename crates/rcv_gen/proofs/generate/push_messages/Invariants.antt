-- The messages of the roles so far.
use Rattle.std.specs.Prelude.{◌≡◌, ◌++◌, string_bytes}
use Rattle.rcv_gen.specs.Generated.{messages}
use Rattle.rcv_gen.proofs.generate.push_messages.Given as goal

abbrev pub invariant-loop-role : goal.invariant-loop-role
invariant-loop-role l = string_bytes l.text ≡ string_bytes l.fn.text ++ messages l.fn.label l.role
