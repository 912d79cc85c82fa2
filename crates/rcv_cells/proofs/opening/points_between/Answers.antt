-- All points of the text were gone through.
use Rattle.std.proofs.Common.{◌≤◌, subst}
use Rattle.rcv_model.specs.Net.{Net}
use Rattle.rcv_cells.proofs.opening.points_between.Goals as goal

pub add_point-requires-clause-few : goal.add_point-requires-clause-few
add_point-requires-clause-few c = subst (λ (n : Net). n.count ≤ 256) c.points.ensures c.count-count.ensures.within.few
