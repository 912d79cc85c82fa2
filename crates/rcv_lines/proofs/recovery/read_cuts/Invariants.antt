-- What the fields so far say of the roles so far.
use Rattle.rcv_lines.specs.Cutting.{texts}
use Rattle.rcv_lines.proofs.Turns.{Reading}
use Rattle.rcv_lines.proofs.recovery.read_cuts.Given as goal

abbrev pub invariant-loop-role : goal.invariant-loop-role
invariant-loop-role l = Reading l.fn.names (texts l.fn.fields) l.role l.place l.cuts.concerned.0 l.cuts.kept
