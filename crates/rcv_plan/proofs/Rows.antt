-- What the lines of a plan say of a role, and where nothing is said of it.
use Rattle.std.proofs.Common.{◌≡◌, ℕ, zero, suc, ◌<◌, ◌≤◌, Bool, true, false, List, [], ◌∷◌, ◌++◌, Bor, length, refl, subst, arith}
use Rattle.std.specs.Prelude.{◌==◌, slice_index_or, slice_get, Option, Some, None, IfNone, cond}
use Rattle.std.specs.Slice.{IsItemAt}
use Rattle.std.specs.List.{All}
use Rattle.std.proofs.lemmas.Bool.Decides.{nat_tests}
use Rattle.std.proofs.lemmas.List.Elements.{All-head, All-tail}
use Rattle.rcv_tree.specs.Bits.{is_listed}
use Rattle.rcv_model.specs.Plan.{PlanLine, EveryLine, CrashLine, LimitLine, RoomLine, HostLine, every_in, limit_in, room_in, crashes_in, host_in}
use Rattle.rcv_plan.specs.declared.plan.Row.{Row}
use Rattle.rcv_plan.specs.Lines.{IsLineFor, IsPlanFor}
use Rattle.rcv_plan.specs.Plans.{IsSilentOn}

-- a number is in its range
abbrev pub IsIn : ℕ → ℕ → ℕ → Type 0
IsIn low high n = (low ≤ n) × (n ≤ high)

pub every_is_in : (m : ℕ) (plan : List PlanLine) (r : ℕ) → IsPlanFor m plan → IsIn 1 100000 (every_in plan r)
every_is_in m [] r f = (omega arith, omega arith)
every_is_in m (EveryLine q n ∷ plan) r f = go (q == r) (every_is_in m plan r (All-tail (IsLineFor m) (EveryLine q n) plan f))
  where
    first : IsLineFor m (EveryLine q n)
    first = All-head (IsLineFor m) (EveryLine q n) plan f

    go : (b : Bool) → IsIn 1 100000 (every_in plan r) → IsIn 1 100000 (cond b n (every_in plan r))
    go true others = (first.1, first.2)
    go false others = others
every_is_in m (CrashLine q n ∷ plan) r f = every_is_in m plan r (All-tail (IsLineFor m) (CrashLine q n) plan f)
every_is_in m (LimitLine n ∷ plan) r f = every_is_in m plan r (All-tail (IsLineFor m) (LimitLine n) plan f)
every_is_in m (RoomLine n ∷ plan) r f = every_is_in m plan r (All-tail (IsLineFor m) (RoomLine n) plan f)
every_is_in m (HostLine qs ∷ plan) r f = every_is_in m plan r (All-tail (IsLineFor m) (HostLine qs) plan f)

pub limit_is_in : (m : ℕ) (plan : List PlanLine) → IsPlanFor m plan → IsIn 1 100000 (limit_in plan)
limit_is_in m [] f = (omega arith, omega arith)
limit_is_in m (LimitLine n ∷ plan) f = All-head (IsLineFor m) (LimitLine n) plan f
limit_is_in m (EveryLine q n ∷ plan) f = limit_is_in m plan (All-tail (IsLineFor m) (EveryLine q n) plan f)
limit_is_in m (CrashLine q n ∷ plan) f = limit_is_in m plan (All-tail (IsLineFor m) (CrashLine q n) plan f)
limit_is_in m (RoomLine n ∷ plan) f = limit_is_in m plan (All-tail (IsLineFor m) (RoomLine n) plan f)
limit_is_in m (HostLine qs ∷ plan) f = limit_is_in m plan (All-tail (IsLineFor m) (HostLine qs) plan f)

pub room_is_in : (m : ℕ) (plan : List PlanLine) → IsPlanFor m plan → IsIn 1 1024 (room_in plan)
room_is_in m [] f = (omega arith, omega arith)
room_is_in m (RoomLine n ∷ plan) f = All-head (IsLineFor m) (RoomLine n) plan f
room_is_in m (EveryLine q n ∷ plan) f = room_is_in m plan (All-tail (IsLineFor m) (EveryLine q n) plan f)
room_is_in m (CrashLine q n ∷ plan) f = room_is_in m plan (All-tail (IsLineFor m) (CrashLine q n) plan f)
room_is_in m (LimitLine n ∷ plan) f = room_is_in m plan (All-tail (IsLineFor m) (LimitLine n) plan f)
room_is_in m (HostLine qs ∷ plan) f = room_is_in m plan (All-tail (IsLineFor m) (HostLine qs) plan f)

-- a role above all that are named isn't any of these
not_listed : (m r : ℕ) (qs : List ℕ) → All (λ q. q < m) qs → m ≤ r → is_listed qs r ≡ false
not_listed m r [] all l = refl
not_listed m r (q ∷ qs) all l =
    let first : q < m = All-head (λ x. x < m) q qs all in
    let others = not_listed m r qs (All-tail (λ x. x < m) q qs all) l in
    let e : (q == r) ≡ false = grind (arith, nat_tests) in
    rw (e, others) refl

pub every_beyond : (m : ℕ) (plan : List PlanLine) (r : ℕ) → IsPlanFor m plan → m ≤ r → every_in plan r ≡ 1
every_beyond m [] r f l = refl
every_beyond m (EveryLine q n ∷ plan) r f l =
    let first = All-head (IsLineFor m) (EveryLine q n) plan f in
    let e : (q == r) ≡ false = grind (arith, nat_tests, first.0) in
    rw e (every_beyond m plan r (All-tail (IsLineFor m) (EveryLine q n) plan f) l)
every_beyond m (CrashLine q n ∷ plan) r f l = every_beyond m plan r (All-tail (IsLineFor m) (CrashLine q n) plan f) l
every_beyond m (LimitLine n ∷ plan) r f l = every_beyond m plan r (All-tail (IsLineFor m) (LimitLine n) plan f) l
every_beyond m (RoomLine n ∷ plan) r f l = every_beyond m plan r (All-tail (IsLineFor m) (RoomLine n) plan f) l
every_beyond m (HostLine qs ∷ plan) r f l = every_beyond m plan r (All-tail (IsLineFor m) (HostLine qs) plan f) l

pub crashes_beyond : (m : ℕ) (plan : List PlanLine) (r : ℕ) → IsPlanFor m plan → m ≤ r → crashes_in plan r ≡ []
crashes_beyond m [] r f l = refl
crashes_beyond m (CrashLine q n ∷ plan) r f l =
    let first = All-head (IsLineFor m) (CrashLine q n) plan f in
    let e : (q == r) ≡ false = grind (arith, nat_tests, first.0) in
    rw e (crashes_beyond m plan r (All-tail (IsLineFor m) (CrashLine q n) plan f) l)
crashes_beyond m (EveryLine q n ∷ plan) r f l = crashes_beyond m plan r (All-tail (IsLineFor m) (EveryLine q n) plan f) l
crashes_beyond m (LimitLine n ∷ plan) r f l = crashes_beyond m plan r (All-tail (IsLineFor m) (LimitLine n) plan f) l
crashes_beyond m (RoomLine n ∷ plan) r f l = crashes_beyond m plan r (All-tail (IsLineFor m) (RoomLine n) plan f) l
crashes_beyond m (HostLine qs ∷ plan) r f l = crashes_beyond m plan r (All-tail (IsLineFor m) (HostLine qs) plan f) l

pub host_beyond : (m : ℕ) (plan : List PlanLine) (r : ℕ) → IsPlanFor m plan → m ≤ r → host_in plan r ≡ []
host_beyond m [] r f l = refl
host_beyond m (HostLine qs ∷ plan) r f l =
    let e = not_listed m r qs (All-head (IsLineFor m) (HostLine qs) plan f) l in
    rw e (host_beyond m plan r (All-tail (IsLineFor m) (HostLine qs) plan f) l)
host_beyond m (EveryLine q n ∷ plan) r f l = host_beyond m plan r (All-tail (IsLineFor m) (EveryLine q n) plan f) l
host_beyond m (CrashLine q n ∷ plan) r f l = host_beyond m plan r (All-tail (IsLineFor m) (CrashLine q n) plan f) l
host_beyond m (LimitLine n ∷ plan) r f l = host_beyond m plan r (All-tail (IsLineFor m) (LimitLine n) plan f) l
host_beyond m (RoomLine n ∷ plan) r f l = host_beyond m plan r (All-tail (IsLineFor m) (RoomLine n) plan f) l

pub host_is_in : (m : ℕ) (plan : List PlanLine) (r : ℕ) → IsPlanFor m plan → All (λ q. q < m) (host_in plan r)
host_is_in m [] r f = λ k d l. absurd (omega (arith, l))
host_is_in m (HostLine qs ∷ plan) r f = go (is_listed qs r) (host_is_in m plan r (All-tail (IsLineFor m) (HostLine qs) plan f))
  where
    go : (b : Bool) → All (λ q. q < m) (host_in plan r) → All (λ q. q < m) (cond b qs (host_in plan r))
    go true others = All-head (IsLineFor m) (HostLine qs) plan f
    go false others = others
host_is_in m (EveryLine q n ∷ plan) r f = host_is_in m plan r (All-tail (IsLineFor m) (EveryLine q n) plan f)
host_is_in m (CrashLine q n ∷ plan) r f = host_is_in m plan r (All-tail (IsLineFor m) (CrashLine q n) plan f)
host_is_in m (LimitLine n ∷ plan) r f = host_is_in m plan r (All-tail (IsLineFor m) (LimitLine n) plan f)
host_is_in m (RoomLine n ∷ plan) r f = host_is_in m plan r (All-tail (IsLineFor m) (RoomLine n) plan f)

-- for more roles it is one too
line_for_more : (m n : ℕ) (line : PlanLine) → m ≤ n → IsLineFor m line → IsLineFor n line
line_for_more m n (EveryLine q k) l f = let a = f.0 in (omega (arith, a, l), f.1, f.2)
line_for_more m n (CrashLine q k) l f = let a = f.0 in (omega (arith, a, l), f.1)
line_for_more m n (LimitLine k) l f = f
line_for_more m n (RoomLine k) l f = f
line_for_more m n (HostLine qs) l f = λ k d h. let a = f k d h in omega (arith, a, l)

pub plan_for_more : (m n : ℕ) (plan : List PlanLine) → m ≤ n → IsPlanFor m plan → IsPlanFor n plan
plan_for_more m n plan l f = λ k d h. line_for_more m n (slice_index_or plan k d) l (f k d h)

pub silent : (m : ℕ) (plan : List PlanLine) (r : ℕ) → IsPlanFor m plan → m ≤ r → IsSilentOn plan r
silent m plan r f l = record {
  every = every_beyond m plan r f l;
  crashes = crashes_beyond m plan r f l;
  host = host_beyond m plan r f l;
}

-- where there is no row
pub if_none : {P : Type 0} (rows : List Row) (i : ℕ) (r : Option (Bor Row)) → IsItemAt rows i r → (length rows ≤ i → P) → IfNone r P
if_none rows i None h f = f (let past = h.0 in grind (arith, nat_tests))
if_none rows i (Some x) h f = tt

-- one row more
pub one_more : (P : ℕ → Row → Type 0) (rows : List Row) (new : Row) → ((r : ℕ) (row : Row) → slice_get rows r ≡ Some row → P r row) → P (length rows) new
    → (r : ℕ) (row : Row) → slice_get (rows ++ new ∷ []) r ≡ Some row → P r row
one_more P [] new all one zero row e = let same : new ≡ row = cc in subst (λ x. P 0 x) same one
one_more P [] new all one (suc r) row e = absurd cc
one_more P (x ∷ rows) new all one zero row e = all zero row e
one_more P (x ∷ rows) new all one (suc r) row e = one_more (λ q. P (suc q)) rows new (λ q y h. all (suc q) y h) one r row e
