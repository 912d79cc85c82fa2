use Rattle.std.proofs.Common.{◌≡◌, ◌≤◌, ◌+◌, ◌*◌, ℕ, length, take}
use Rattle.std.specs.List.{sum_by}
use Rattle.std.specs.declared.alloc.Global.{Global}
use Rattle.std.specs.declared.vec.Vec.{Vec}
use Rattle.rcv_costs.proofs.sampling.step_of.Given as goal

abbrev pub invariant-loop-of_role : goal.invariant-loop-of_role
invariant-loop-of_role l = record {
  sum : l.all ≡ sum_by (λ (p : Vec ℕ Global). length p.items + 1) (take l.of_role-index l.points);
  few : l.all ≤ l.of_role-index * 100001;
}
