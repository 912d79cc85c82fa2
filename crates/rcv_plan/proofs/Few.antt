-- In a plan that was read no role has more crash lines than there are counts in their range.
use Rattle.std.proofs.Common.{◌≡◌, ℕ, zero, suc, ◌+◌, ◌*◌, ◌<◌, ◌≤◌, Bool, true, false, List, [], ◌∷◌, ◌++◌, length, refl, ap, subst, ◌∙◌, arith}
use Rattle.std.specs.Prelude.{◌==◌, nat_lt, cond, slice_index_or}
use Rattle.std.specs.List.{count_by, sum_by, range_with_len}
use Rattle.std.proofs.lemmas.Bool.Decides.{nat_tests}
use Rattle.std.proofs.lemmas.List.Elements.{All-head, All-tail}
use Rattle.std.proofs.lemmas.List.FromFn.{length-range_with_len}
use Rattle.std.proofs.lemmas.List.Sums.{sum_by-cons, sum_by-le}
use Rattle.rcv_model.specs.Plan.{PlanLine, EveryLine, CrashLine, LimitLine, RoomLine, HostLine, crashes_in}
use Rattle.rcv_plan.specs.Lines.{IsLineFor, IsPlanFor, AreOnce, IsPlanned}
use Rattle.rcv_plan.specs.Laws.{PlansAreShort}
use Rattle.rcv_plan.proofs.Crashes.{once_behind}

-- ---- numbers of which none is twice

abbrev below : ℕ → List ℕ → ℕ
below b xs = count_by (λ n. nat_lt n b) xs

abbrev those : ℕ → List ℕ → ℕ
those b xs = count_by (λ n. n == b) xs

below_cons : (b x : ℕ) (xs : List ℕ) → below b (x ∷ xs) ≡ cond (nat_lt x b) 1 0 + below b xs
below_cons b x xs = sum_by-cons (λ n. cond (nat_lt n b) 1 0) x xs

those_cons : (b x : ℕ) (xs : List ℕ) → those b (x ∷ xs) ≡ cond (x == b) 1 0 + those b xs
those_cons b x xs = sum_by-cons (λ n. cond (n == b) 1 0) x xs

none_below : (xs : List ℕ) → below 0 xs ≡ 0
none_below [] = refl
none_below (x ∷ xs) = let first = below_cons 0 x xs in let others = none_below xs in grind (arith, nat_tests)

one_more : (b : ℕ) (xs : List ℕ) → below (suc b) xs ≡ below b xs + those b xs
one_more b [] = refl
one_more b (x ∷ xs) =
    let u = below_cons (suc b) x xs in
    let v = below_cons b x xs in
    let w = those_cons b x xs in
    let others = one_more b xs in
    grind (arith, nat_tests)

few_below : (b : ℕ) (xs : List ℕ) → ((n : ℕ) → those n xs ≤ 1) → below b xs ≤ b
few_below zero xs single = let none = none_below xs in omega (arith, none)
few_below (suc b) xs single = let less = few_below b xs single in let more = one_more b xs in let one = single b in omega (arith, less, more, one)

-- ---- the counts of a plan

-- no crash line of the role at this count
none_there : (plan : List PlanLine) (r b : ℕ) → ((front back : List PlanLine) → plan ≡ front ++ CrashLine r b ∷ back → ⊥) → those b (crashes_in plan r) ≡ 0
none_there [] r b none = refl
none_there (EveryLine q n ∷ plan) r b none = none_there plan r b (λ front back e. none (EveryLine q n ∷ front) back (ap (λ (l : List PlanLine). EveryLine q n ∷ l) e))
none_there (LimitLine n ∷ plan) r b none = none_there plan r b (λ front back e. none (LimitLine n ∷ front) back (ap (λ (l : List PlanLine). LimitLine n ∷ l) e))
none_there (RoomLine n ∷ plan) r b none = none_there plan r b (λ front back e. none (RoomLine n ∷ front) back (ap (λ (l : List PlanLine). RoomLine n ∷ l) e))
none_there (HostLine qs ∷ plan) r b none = none_there plan r b (λ front back e. none (HostLine qs ∷ front) back (ap (λ (l : List PlanLine). HostLine qs ∷ l) e))
none_there (CrashLine q n ∷ plan) r b none = go (q == r) (n == b) refl refl (none_there plan r b (λ front back e. none (CrashLine q n ∷ front) back (ap (λ (l : List PlanLine). CrashLine q n ∷ l) e)))
  where
    go : (x y : Bool) → (q == r) ≡ x → (n == b) ≡ y → those b (crashes_in plan r) ≡ 0 → those b (crashes_in (CrashLine q n ∷ plan) r) ≡ 0
    go false y e f others = rw e others
    go true false e f others = rw e (let more = those_cons b n (crashes_in plan r) in grind (arith, nat_tests))
    go true true e f others =
        let role : q ≡ r = grind (arith, nat_tests) in
        let count : n ≡ b = grind (arith, nat_tests) in
        absurd (none [] plan cc)

pub one_there : (plan : List PlanLine) (r b : ℕ) → AreOnce plan → those b (crashes_in plan r) ≤ 1
one_there [] r b once = omega arith
one_there (EveryLine q n ∷ plan) r b once = one_there plan r b (once_behind (EveryLine q n) plan once)
one_there (LimitLine n ∷ plan) r b once = one_there plan r b (once_behind (LimitLine n) plan once)
one_there (RoomLine n ∷ plan) r b once = one_there plan r b (once_behind (RoomLine n) plan once)
one_there (HostLine qs ∷ plan) r b once = one_there plan r b (once_behind (HostLine qs) plan once)
one_there (CrashLine q n ∷ plan) r b once = go (q == r) (n == b) refl refl (one_there plan r b (once_behind (CrashLine q n) plan once))
  where
    go : (x y : Bool) → (q == r) ≡ x → (n == b) ≡ y → those b (crashes_in plan r) ≤ 1 → those b (crashes_in (CrashLine q n ∷ plan) r) ≤ 1
    go false y e f others = rw e others
    go true false e f others = rw e (let more = those_cons b n (crashes_in plan r) in grind (arith, nat_tests))
    go true true e f others =
        let none = none_there plan r b (λ front back h. let before = once (CrashLine q n ∷ front) back r b (ap (λ (l : List PlanLine). CrashLine q n ∷ l) h) in let told = rw (e, f) at before in absurd cc) in
        let more = those_cons b n (crashes_in plan r) in
        rw e (grind (arith, nat_tests))

all_below : (m : ℕ) (plan : List PlanLine) (r : ℕ) → IsPlanFor m plan → below 100064 (crashes_in plan r) ≡ length (crashes_in plan r)
all_below m [] r fits = refl
all_below m (EveryLine q n ∷ plan) r fits = all_below m plan r (All-tail (IsLineFor m) (EveryLine q n) plan fits)
all_below m (LimitLine n ∷ plan) r fits = all_below m plan r (All-tail (IsLineFor m) (LimitLine n) plan fits)
all_below m (RoomLine n ∷ plan) r fits = all_below m plan r (All-tail (IsLineFor m) (RoomLine n) plan fits)
all_below m (HostLine qs ∷ plan) r fits = all_below m plan r (All-tail (IsLineFor m) (HostLine qs) plan fits)
all_below m (CrashLine q n ∷ plan) r fits = go (q == r) refl (all_below m plan r (All-tail (IsLineFor m) (CrashLine q n) plan fits))
  where
    last : n ≤ 100063
    last = (All-head (IsLineFor m) (CrashLine q n) plan fits).1

    go : (x : Bool) → (q == r) ≡ x → below 100064 (crashes_in plan r) ≡ length (crashes_in plan r) → below 100064 (crashes_in (CrashLine q n ∷ plan) r) ≡ length (crashes_in (CrashLine q n ∷ plan) r)
    go false e others = rw e others
    go true e others =
        let more = below_cons 100064 n (crashes_in plan r) in
        let within : n < 100064 = omega (arith, last) in
        let first : nat_lt n 100064 ≡ true = grind (arith, nat_tests) in
        rw e (more ∙ grind (arith, nat_tests))

-- ---- the law

few_crashes : (m : ℕ) (plan : List PlanLine) (r : ℕ) → IsPlanned m plan → length (crashes_in plan r) ≤ 100064
few_crashes m plan r p =
    let all = all_below m plan r p.fits in
    let few = few_below 100064 (crashes_in plan r) (λ n. one_there plan r n p.once) in
    omega (arith, all, few)

few_in_all : (roles : ℕ) (plan : List PlanLine) (m : ℕ) → IsPlanned roles plan → sum_by (λ r. length (crashes_in plan r)) (range_with_len 0 m) ≤ m * 100064
few_in_all roles plan m p = subst (λ (n : ℕ). sum_by (λ r. length (crashes_in plan r)) (range_with_len 0 m) ≤ n * 100064) (length-range_with_len 0 m)
    (sum_by-le (λ r. length (crashes_in plan r)) 100064 (range_with_len 0 m) (λ k d l. few_crashes roles plan (slice_index_or (range_with_len 0 m) k d) p))

pub plans_are_short : PlansAreShort
plans_are_short = record { role = few_crashes; all = few_in_all }
