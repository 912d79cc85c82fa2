use Rattle.rcv_passes.specs.Round.{HaveRun}
use Rattle.rcv_passes.proofs.work.work.Given as goal

abbrev pub invariant-loop : goal.invariant-loop
invariant-loop g l =
    HaveRun g.P.Place.ready g.P.Place.ran l.fn.tool l.fn.places l.places × g.P.Place.like l.fn.tool l.tool
