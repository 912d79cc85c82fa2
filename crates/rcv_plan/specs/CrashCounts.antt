-- When roles crash, as a set of roles for each count.
use Rattle.std.specs.Prelude.{ℕ, Bool, List, slice_index_or}
use Rattle.rcv_tree.specs.declared.role.RoleSet.{RoleSet}
use Rattle.rcv_tree.specs.Bits.{has_bit}

-- the set without roles, which stands for each count past the end
abbrev pub nobody : RoleSet
nobody = record { 0 = 0 }

-- this role, which is below 8, crashes at this count
abbrev pub crashes_at : ℕ → ℕ → List RoleSet → Bool
crashes_at r n sets = has_bit (slice_index_or sets n nobody).0 r
