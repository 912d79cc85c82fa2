-- The roles of a host are declared. (These lemmas stand in proofs of rcv_plan too, which are private.)
use Rattle.std.proofs.Common.{ℕ, ◌<◌, Bool, true, false, List, [], ◌∷◌, subst, sym, ⊎_elim}
use Rattle.std.specs.Prelude.{cond}
use Rattle.std.specs.List.{All}
use Rattle.std.proofs.lemmas.List.Elements.{All-head, All-tail}
use Rattle.rcv_tree.specs.Bits.{is_listed}
use Rattle.rcv_model.specs.Net.{IsIn}
use Rattle.rcv_model.specs.Plan.{PlanLine, EveryLine, CrashLine, LimitLine, RoomLine, HostLine, host_in}
use Rattle.rcv_plan.specs.Lines.{IsLineFor, IsPlanFor}

-- each of some roles is below a number
all_below : (m : ℕ) (qs : List ℕ) (q : ℕ) → All (λ x. x < m) qs → IsIn q qs → q < m
all_below m [] q all i = absurd i
all_below m (x ∷ qs) q all i = ⊎_elim
    (λ e. subst (λ y. y < m) (sym e) (All-head (λ y. y < m) x qs all))
    (λ j. all_below m qs q (All-tail (λ y. y < m) x qs all) j)
    i

pub host_range : (m : ℕ) (plan : List PlanLine) (r q : ℕ) → IsPlanFor m plan → IsIn q (host_in plan r) → q < m
host_range m [] r q f i = absurd i
host_range m (HostLine qs ∷ plan) r q f i = go (is_listed qs r) (host_range m plan r q (All-tail (IsLineFor m) (HostLine qs) plan f)) i
  where
    go : (b : Bool) → (IsIn q (host_in plan r) → q < m) → IsIn q (cond b qs (host_in plan r)) → q < m
    go true others j = all_below m qs q (All-head (IsLineFor m) (HostLine qs) plan f) j
    go false others j = others j
host_range m (EveryLine p n ∷ plan) r q f i = host_range m plan r q (All-tail (IsLineFor m) (EveryLine p n) plan f) i
host_range m (CrashLine p n ∷ plan) r q f i = host_range m plan r q (All-tail (IsLineFor m) (CrashLine p n) plan f) i
host_range m (LimitLine n ∷ plan) r q f i = host_range m plan r q (All-tail (IsLineFor m) (LimitLine n) plan f) i
host_range m (RoomLine n ∷ plan) r q f i = host_range m plan r q (All-tail (IsLineFor m) (RoomLine n) plan f) i
