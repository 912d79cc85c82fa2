use Rattle.rcv_model.specs.Net.{IsIn}
use Rattle.rcv_points.specs.Follow.{net_in}
use Rattle.rcv_points.specs.Found.{Adds}
use Rattle.rcv_points.proofs.Adding.{UpTo}
use Rattle.rcv_points.proofs.ending.add_leading.Given as goal

abbrev pub invariant-loop-before : goal.invariant-loop-before
invariant-loop-before l = Adds (UpTo (λ k. IsIn l.point ((net_in l.points).offers k)) l.before) l.fn.places l.places
