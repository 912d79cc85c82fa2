use Rattle.std.proofs.Common.{◌≡◌, drop, map}
use Rattle.rcv_script.specs.Acts.{send_place}
use Rattle.rcv_script.specs.Lines.{line_of}
use Rattle.rcv_script.proofs.acts.send_place.Given as goal

abbrev pub invariant-loop-place : goal.invariant-loop-place
invariant-loop-place l = send_place l.label l.place (map line_of (drop l.place l.lines)) ≡ send_place l.label 0 (map line_of l.lines)
