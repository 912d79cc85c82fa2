use Rattle.std.proofs.Common.{◌≡◌, ◌++◌, drop, map}
use Rattle.rcv_script.specs.Acts.{on_places}
use Rattle.rcv_script.specs.Lines.{line_of}
use Rattle.rcv_script.proofs.acts.on_places.Given as goal

abbrev pub invariant-loop-place : goal.invariant-loop-place
invariant-loop-place l =
    l.places.items ++ on_places l.label l.place (map line_of (drop l.place l.lines)) ≡ on_places l.label 0 (map line_of l.lines)
