use Rattle.std.proofs.Common.{◌≡◌, length, take}
use Rattle.rcv_model.specs.Run.{taken}
use Rattle.rcv_points.specs.Follow.{net_in}
use Rattle.rcv_ledger.specs.Logs.{log_at}
use Rattle.rcv_guide.proofs.renewal.received_from.Given as goal

abbrev pub invariant-loop-place : goal.invariant-loop-place
invariant-loop-place l =
    l.received ≡ length (taken (net_in l.points) l.from l.to (take l.place (log_at l.ledger.logs l.to)))
