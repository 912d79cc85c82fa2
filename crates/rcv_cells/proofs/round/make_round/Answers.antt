-- The session's watch has lowered the fence.
use Rattle.std.proofs.Common.{ap}
use Rattle.rcv_fence.specs.Shown.{Shown}
use Rattle.rcv_cells.proofs.round.make_round.Goals as goal

pub go_and_return-requires-clause-lowered : goal.go_and_return-requires-clause-lowered
go_and_return-requires-clause-lowered g c κs within =
    record { before = c.args.house.now.watch.raised; last = ap (λ (w : Shown). w.raised) c.lower.ensures }
