use Rattle.std.proofs.Common.{◌≡◌, ◌++◌, drop}
use Rattle.rcv_model.specs.Run.{put}
use Rattle.rcv_points.specs.Follow.{net_in}
use Rattle.rcv_ledger.specs.Logs.{log_at}
use Rattle.rcv_guide.proofs.flight.flying.Given as goal

abbrev pub invariant-loop-place : goal.invariant-loop-place
invariant-loop-place l =
    l.messages.items ++ drop l.left (put (net_in l.points) l.from l.to (drop l.place (log_at l.ledger.logs l.from)))
    ≡ drop l.taken (put (net_in l.points) l.from l.to (log_at l.ledger.logs l.from))
