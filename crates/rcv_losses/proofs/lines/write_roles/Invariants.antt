use Rattle.std.proofs.Common.{◌≡◌, ◌++◌, flat_map}
use Rattle.std.specs.List.{range_with_len}
use Rattle.rcv_losses.specs.LossText.{role_line}
use Rattle.rcv_losses.proofs.lines.write_roles.Given as goal

abbrev pub invariant-loop-role : goal.invariant-loop-role
invariant-loop-role l = l.text ≡ l.fn.text ++ flat_map (role_line l.setup l.costs) (range_with_len 0 l.role)
