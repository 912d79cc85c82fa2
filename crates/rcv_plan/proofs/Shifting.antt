-- A plan that was read is one for its roles, and so is that of a later session.
use Prim.Native.Nat.{zero, suc}
use Rattle.std.proofs.Common.{◌≡◌, ℕ, ◌+◌, ◌≤◌, ◌<◌, Bool, true, false, List, [], ◌∷◌, ◌++◌, refl, sym, ◌∙◌, ap, subst, arith}
use Rattle.std.specs.Prelude.{◌==◌, ◌&&◌, ◌||◌, map, slice_index_or}
use Rattle.std.specs.List.{All}
use Rattle.std.proofs.lemmas.Bool.Decides.{nat_tests}
use Rattle.std.proofs.lemmas.List.Elements.{All-head, All-tail, All-cons, All-nil}
use Rattle.rcv_model.specs.Plan.{PlanLine, EveryLine, CrashLine, LimitLine, RoomLine, HostLine, crashes_in}
use Rattle.rcv_plan.specs.Lines.{IsReadLine, IsReadPlan, IsLineFor, IsPlanFor, HasReadCount, line_in, AreOnce, IsPlanned, has_crash, is_crash}
use Rattle.rcv_plan.specs.declared.line.Line.{Line}
use Rattle.rcv_plan.specs.Shifted.{later_line, shifted}

read_line : (m : ℕ) (line : PlanLine) → IsReadLine m line → IsLineFor m line
read_line m (EveryLine q n) f = f
read_line m (CrashLine q n) f = let last = f.1 in (f.0, omega (arith, last))
read_line m (LimitLine n) f = f
read_line m (RoomLine n) f = f
read_line m (HostLine qs) f = f

pub read_fits : (m : ℕ) (plan : List PlanLine) → IsReadPlan m plan → IsPlanFor m plan
read_fits m plan f = λ k d h. read_line m (slice_index_or plan k d) (f k d h)

read_count : (m : ℕ) (line : PlanLine) → IsReadLine m line → HasReadCount line
read_count m (EveryLine q n) f = tt
read_count m (CrashLine q n) f = f.1
read_count m (LimitLine n) f = tt
read_count m (RoomLine n) f = tt
read_count m (HostLine qs) f = tt

pub read_counts : (m : ℕ) (plan : List PlanLine) → IsReadPlan m plan → All HasReadCount plan
read_counts m plan f = λ k d h. read_count m (slice_index_or plan k d) (f k d h)

-- of the lines as they are kept
pub counts_of : (lines : List Line) → All HasReadCount (map line_in lines) → All (λ line. HasReadCount (line_in line)) lines
counts_of [] f = All-nil (λ line. HasReadCount (line_in line))
counts_of (line ∷ lines) f =
    All-cons (λ l. HasReadCount (line_in l)) line lines (All-head HasReadCount (line_in line) (map line_in lines) f) (counts_of lines (All-tail HasReadCount (line_in line) (map line_in lines) f))

later_fits : (m by : ℕ) (line : PlanLine) → by ≤ 63 → HasReadCount line → IsLineFor m line → IsLineFor m (later_line by line)
later_fits m by (EveryLine q n) few c f = f
later_fits m by (CrashLine q n) few c f = (f.0, omega (arith, c, few))
later_fits m by (LimitLine n) few c f = f
later_fits m by (RoomLine n) few c f = f
later_fits m by (HostLine qs) few c f = f

pub shifted_fits : (m by : ℕ) (plan : List PlanLine) → by ≤ 63 → All HasReadCount plan → IsPlanFor m plan → IsPlanFor m (shifted by plan)
shifted_fits m by [] few c f = All-nil (IsLineFor m)
shifted_fits m by (line ∷ plan) few c f =
    All-cons (IsLineFor m) (later_line by line) (shifted by plan) (later_fits m by line few (All-head HasReadCount line plan c) (All-head (IsLineFor m) line plan f))
    (shifted_fits m by plan few (All-tail HasReadCount line plan c) (All-tail (IsLineFor m) line plan f))

-- a crash line of the later plan is one of the plan, at a count that is less
same_crash : (by q r c n : ℕ) → (q == r && (c + by) == (n + by)) ≡ (q == r && c == n)
same_crash by q r c n = ap (λ (b : Bool). q == r && b) (grind (arith, nat_tests))

pub later_crash : (by r n : ℕ) (plan : List PlanLine) → has_crash r (n + by) (shifted by plan) ≡ has_crash r n plan
later_crash by r n [] = refl
later_crash by r n (CrashLine q c ∷ plan) = let a = same_crash by q r c n in let b = later_crash by r n plan in rw (a, b) refl
later_crash by r n (EveryLine q c ∷ plan) = later_crash by r n plan
later_crash by r n (LimitLine c ∷ plan) = later_crash by r n plan
later_crash by r n (RoomLine c ∷ plan) = later_crash by r n plan
later_crash by r n (HostLine qs ∷ plan) = later_crash by r n plan

-- a crash line of the later plan, with those before it
record IsLater (by r m : ℕ) (plan front : List PlanLine) : Type 0 where
  count : ℕ
  before : List PlanLine
  behind : List PlanLine
  plan_is : plan ≡ before ++ CrashLine r count ∷ behind
  front_is : front ≡ shifted by before
  count_is : m ≡ count + by

later_place : (by r m : ℕ) (plan front back : List PlanLine) → shifted by plan ≡ front ++ CrashLine r m ∷ back → IsLater by r m plan front
later_place by r m [] [] back e = absurd cc
later_place by r m [] (y ∷ front) back e = absurd cc
later_place by r m (EveryLine q n ∷ plan) [] back e = absurd cc
later_place by r m (LimitLine n ∷ plan) [] back e = absurd cc
later_place by r m (RoomLine n ∷ plan) [] back e = absurd cc
later_place by r m (HostLine qs ∷ plan) [] back e = absurd cc
later_place by r m (CrashLine q n ∷ plan) [] back e =
    let role : q ≡ r = cc in
    record { count = n; before = []; behind = plan; plan_is = ap (λ (z : ℕ). CrashLine z n ∷ plan) role; front_is = refl; count_is = cc }
later_place by r m (line ∷ plan) (y ∷ front) back e =
    let first : later_line by line ≡ y = cc in
    let rest : IsLater by r m plan front = later_place by r m plan front back cc in
    record {
      count = rest.count;
      before = line ∷ rest.before;
      behind = rest.behind;
      plan_is = ap (λ (l : List PlanLine). line ∷ l) rest.plan_is;
      front_is = ap (λ (l : List PlanLine). y ∷ l) rest.front_is ∙ ap (λ (z : PlanLine). z ∷ shifted by rest.before) (sym first);
      count_is = rest.count_is;
    }

pub shifted_once : (by : ℕ) (plan : List PlanLine) → AreOnce plan → AreOnce (shifted by plan)
shifted_once by plan once front back r m e =
    let at : IsLater by r m plan front = later_place by r m plan front back e in
    let before : has_crash r at.count at.before ≡ false = once at.before at.behind r at.count at.plan_is in
    subst (λ (z : ℕ). has_crash r z front ≡ false) (sym at.count_is)
    (subst (λ (l : List PlanLine). has_crash r (at.count + by) l ≡ false) (sym at.front_is) (later_crash by r at.count at.before ∙ before))

-- the counts of a role are those of the plan, each so many more
pub later_crashes : (by : ℕ) (plan : List PlanLine) (r : ℕ) → crashes_in (shifted by plan) r ≡ map (λ n. n + by) (crashes_in plan r)
later_crashes by [] r = refl
later_crashes by (EveryLine q n ∷ plan) r = later_crashes by plan r
later_crashes by (LimitLine n ∷ plan) r = later_crashes by plan r
later_crashes by (RoomLine n ∷ plan) r = later_crashes by plan r
later_crashes by (HostLine qs ∷ plan) r = later_crashes by plan r
later_crashes by (CrashLine q n ∷ plan) r = go (q == r) refl (later_crashes by plan r)
  where
    go : (x : Bool) → (q == r) ≡ x → crashes_in (shifted by plan) r ≡ map (λ n. n + by) (crashes_in plan r) → crashes_in (shifted by (CrashLine q n ∷ plan)) r ≡ map (λ n. n + by) (crashes_in (CrashLine q n ∷ plan) r)
    go true e others = rw e (ap (λ (l : List ℕ). (n + by) ∷ l) others)
    go false e others = rw e others

pub shifted_planned : (m by : ℕ) (plan : List PlanLine) → by ≤ 63 → All HasReadCount plan → IsPlanned m plan → IsPlanned m (shifted by plan)
shifted_planned m by plan few c p = record { fits = shifted_fits m by plan few c p.fits; once = shifted_once by plan p.once }
