use Rattle.std.proofs.Common.{◌≡◌, ◌++◌, drop, map}
use Rattle.rcv_do.specs.Copying.{stands_of}
use Rattle.rcv_do.proofs.expansion.Expanding.all_standing.Given as goal

abbrev pub invariant-loop-role : goal.invariant-loop-role
invariant-loop-role l = l.list.items ++ map (stands_of l.self) (drop l.role-index l.roles) ≡ map (stands_of l.self) l.roles
