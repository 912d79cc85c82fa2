use Rattle.rcv_passes.proofs.Passes.{HaveRunBefore}
use Rattle.rcv_passes.proofs.work.run_all.Given as goal

abbrev pub invariant-loop-index : goal.invariant-loop-index
invariant-loop-index g l =
    HaveRunBefore g.P.Place.ready g.P.Place.ran l.initial.tool l.index l.initial.places l.places
    × g.P.Place.like l.initial.tool l.tool
