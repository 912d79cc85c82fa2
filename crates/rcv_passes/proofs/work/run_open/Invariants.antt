use Rattle.rcv_passes.specs.Round.{HaveGone}
use Rattle.rcv_passes.proofs.work.run_open.Given as goal

abbrev pub invariant-loop-index : goal.invariant-loop-index
invariant-loop-index g l =
    HaveGone g.P.Place.ready g.P.Place.ran l.initial.tool l.initial.places l.places
    × g.P.Place.like l.initial.tool l.tool
