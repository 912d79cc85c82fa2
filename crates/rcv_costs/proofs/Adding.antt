-- The lists that grow: points of one role more, costs of one crash more, costs of one role more.
use Rattle.std.proofs.Common.{◌≡◌, ℕ, zero, suc, ◌+◌, ◌*◌, ◌/◌, ◌<◌, ◌≤◌, List, [], ◌∷◌, ◌++◌, length, length-append, map, get_or, refl, sym, ◌∙◌, ap, subst, ⊎_elim, append-nil, arith}
use Rattle.std.specs.Prelude.{flat_map, slice_index_or}
use Rattle.std.specs.List.{All, sum_by, range_with_len}
use Rattle.std.specs.declared.alloc.Global.{Global}
use Rattle.std.specs.declared.vec.Vec.{Vec}
use Rattle.std.proofs.Math.Nat.{div-le_self}
use Rattle.std.proofs.lemmas.Bool.{cases_eq}
use Rattle.std.proofs.lemmas.Grind.{flat_map-append}
use Rattle.std.proofs.lemmas.List.{map-append, length-map}
use Rattle.std.proofs.lemmas.List.Elements.{All-nil, All-cons, All-head, All-tail}
use Rattle.std.proofs.lemmas.List.FromFn.{map-range_with_len_more, length-map-range_with_len}
use Rattle.std.proofs.lemmas.List.Sums.{sum_by-cons}
use Rattle.rcv_tree.specs.declared.entry.Entry.{Entry}
use Rattle.rcv_session.specs.Session.{SessionView, roles_of}
use Rattle.rcv_costs.specs.declared.numbers.Cost.{Cost}
use Rattle.rcv_costs.specs.declared.numbers.Costs.{Costs}
use Rattle.rcv_costs.specs.Rehearsal.{crash_session, DiffersInCrashes}
use Rattle.rcv_costs.specs.Sampling.{At, of_role, all_counts, step_for, counts_of, counts_in}
use Rattle.rcv_costs.specs.Costs.{IsCalmRun, own_points, made_in, AreOwnPoints, AreAllPoints, at, IsCostBy, IsCostOf, IsCostOfRole, HasCosts, AreCosts}
use Rattle.rcv_costs.proofs.Sessions.{differs_crash, differs_joined, differs_turned, crash_is, own_is}
use Rattle.rcv_costs.proofs.Sums.{sums_alike}

-- what holds of each element
all_imp : {A : Type 0} (P Q : A → Type 0) (xs : List A) → ((x : A) → P x → Q x) → All P xs → All Q xs
all_imp P Q [] f all = All-nil Q
all_imp P Q (x ∷ xs) f all = All-cons Q x xs (f x (All-head P x xs all)) (all_imp P Q xs f (All-tail P x xs all))

all_joined : {A : Type 0} (P : A → Type 0) (xs ys : List A) → All P xs → All P ys → All P (xs ++ ys)
all_joined P [] ys a b = b
all_joined P (x ∷ xs) ys a b = All-cons P x (xs ++ ys) (All-head P x xs a) (all_joined P xs ys (All-tail P x xs a) b)

pub all_and : {A : Type 0} (P : A → Type 0) (xs : List A) (x : A) → All P xs → P x → All P (xs ++ x ∷ [])
all_and P xs x all here = all_joined P xs (x ∷ []) all (All-cons P x [] here (All-nil P))

-- ---- points of one role more

at_front : (ps : List (List ℕ)) (v : List ℕ) (r : ℕ) → r < length ps → slice_index_or (ps ++ v ∷ []) r [] ≡ slice_index_or ps r []
at_front [] v r lt = absurd (omega (arith, lt))
at_front (p ∷ ps) v zero lt = refl
at_front (p ∷ ps) v (suc r) lt = at_front ps v r (omega (arith, lt))

at_last : (ps : List (List ℕ)) (v : List ℕ) → slice_index_or (ps ++ v ∷ []) (length ps) [] ≡ v
at_last [] v = refl
at_last (p ∷ ps) v = at_last ps v

module _ (points : List (Vec ℕ Global)) (v : Vec ℕ Global) where
  more_is : map (λ (p : Vec ℕ Global). p.items) (points ++ v ∷ []) ≡ map (λ (p : Vec ℕ Global). p.items) points ++ v.items ∷ []
  more_is = map-append (λ (p : Vec ℕ Global). p.items) points (v ∷ [])

  size : length (map (λ (p : Vec ℕ Global). p.items) points) ≡ length points
  size = length-map points (λ (p : Vec ℕ Global). p.items)

  pub front_stays : (r : ℕ) → r < length points → of_role (points ++ v ∷ []) r ≡ of_role points r
  front_stays r lt = ap (λ l. slice_index_or l r []) more_is ∙ at_front (map (λ (p : Vec ℕ Global). p.items) points) v.items r (omega (arith, lt, size))

  pub last_is : of_role (points ++ v ∷ []) (length points) ≡ v.items
  last_is = ap (λ l. slice_index_or l (length points) []) more_is ∙ ap (λ n. slice_index_or (map (λ (p : Vec ℕ Global). p.items) points ++ v.items ∷ []) n []) (sym size) ∙ at_last (map (λ (p : Vec ℕ Global). p.items) points) v.items

pub one_role_told : (session : SessionView) (points : List (Vec ℕ Global)) (v : Vec ℕ Global) (role : ℕ) → length points ≡ role → ((r : ℕ) → r < role → AreOwnPoints session r (of_role points r)) → AreOwnPoints session role v.items → (r : ℕ) → r < role + 1 → AreOwnPoints session r (of_role (points ++ v ∷ []) r)
one_role_told session points v role all each here r low = ⊎_elim
    (λ (e : r ≡ role). subst (AreOwnPoints session r) (sym (ap (of_role (points ++ v ∷ [])) (e ∙ sym all) ∙ last_is points v)) (subst (λ q. AreOwnPoints session q v.items) (sym e) here))
    (λ other. subst (AreOwnPoints session r) (sym (front_stays points v r (omega (arith, low, all, other)))) (each r (omega (arith, low, other))))
    (cases_eq r role)

-- the list at a place
pub role_list : (points : List (Vec ℕ Global)) (role : ℕ) (v : Vec ℕ Global) → role < length points → v ≡ get_or points role v → v.items ≡ of_role points role
role_list [] role v lt e = absurd (omega (arith, lt))
role_list (p ∷ points) zero v lt e = ap (λ (x : Vec ℕ Global). x.items) e
role_list (p ∷ points) (suc role) v lt e = role_list points role v (omega (arith, lt)) e

-- ---- one cost more

pub counts_more : (r step sample : ℕ) (added : List Cost) (cost : Cost) → at cost ≡ record { role = r; count = sample * step } → map at added ≡ map (λ k. record { role = r; count = k * step }) (range_with_len 0 sample) → map at (added ++ cost ∷ []) ≡ map (λ k. record { role = r; count = k * step }) (range_with_len 0 (sample + 1))
counts_more r step sample added cost is so =
    map-append at added (cost ∷ [])
    ∙ ap (λ l. l ++ at cost ∷ []) so
    ∙ ap (λ (a : At). map (λ k. record { role = r; count = k * step }) (range_with_len 0 sample) ++ a ∷ []) is
    ∙ sym (map-range_with_len_more (counted r step) 0 sample sample (omega arith))
  where
    counted : ℕ → ℕ → ℕ → At
    counted q s k = record { role = q; count = k * s }

pub cost_moves : (old loop setup : SessionView) (r n : ℕ) (points : List ℕ) (cost : Cost) → DiffersInCrashes old loop → setup ≡ crash_session loop r n → at cost ≡ record { role = r; count = n } → IsCostBy setup points cost → IsCostOfRole old r points cost
cost_moves old loop setup r n points cost differs ok is here =
    (ap (λ (a : At). a.role) is, subst (λ (x : SessionView). IsCostBy x points cost) (ok ∙ crash_is old loop differs r n ∙ ap (λ (a : At). crash_session old r a.count) (sym is)) here)

-- the session behind one crash more
pub differs_behind : (old loop setup : SessionView) (r n : ℕ) → DiffersInCrashes old loop → setup ≡ crash_session loop r n → DiffersInCrashes old setup
differs_behind old loop setup r n differs ok = subst (DiffersInCrashes old) (sym ok) (differs_joined old loop (crash_session loop r n) differs (differs_crash loop r n))

pub own_behind : (old setup : SessionView) (r : ℕ) (points : List ℕ) → DiffersInCrashes old setup → AreOwnPoints old r points → AreOwnPoints setup r points
own_behind old setup r points differs own = own_is setup old (differs_turned old setup differs) r points own

-- ---- the costs of one role more

-- a cost of one of the first roles
abbrev pub IsCostBelow : SessionView → List (Vec ℕ Global) → ℕ → Cost → Type 0
IsCostBelow session points roles cost =
    (cost.role < roles) × IsCostBy (crash_session session cost.role cost.count) (of_role points cost.role) cost

range_more : (a n : ℕ) → range_with_len a (n + 1) ≡ range_with_len a n ++ (a + n) ∷ []
range_more a zero = ap (λ k. k ∷ []) (omega arith)
range_more a (suc n) =
    let one : suc n + 1 ≡ suc (n + 1) = omega arith in
    ap (range_with_len a) one
    ∙ ap (λ l. a ∷ l) (range_more (a + 1) n)
    ∙ ap (λ k. a ∷ (range_with_len (a + 1) n ++ k ∷ [])) (omega arith)

pub counts_role : (made : ℕ → ℕ) (step role : ℕ) → counts_in (role + 1) made step ≡ counts_in role made step ++ counts_of (made role) step role
counts_role made step role =
    ap (flat_map (λ r. counts_of (made r) step r)) (range_more 0 role ∙ ap (λ k. range_with_len 0 role ++ k ∷ []) (omega arith))
    ∙ flat_map-append (λ r. counts_of (made r) step r) (range_with_len 0 role) (role ∷ [])
    ∙ ap (λ l. counts_in role made step ++ l) (append-nil (counts_of (made role) step role))

module _ (old loop : SessionView) (differs : DiffersInCrashes old loop) (points : List (Vec ℕ Global)) (step role : ℕ) (now new : List Cost) (has : HasCosts loop role (of_role points role) step now new) where
  pub role_counts : map at now ≡ counts_in role (λ r. length (of_role points r)) step → map at new ≡ counts_in (role + 1) (λ r. length (of_role points r)) step
  role_counts so =
      ap (map at) has.is
      ∙ map-append at now has.added
      ∙ ap (λ l. l ++ map at has.added) so
      ∙ ap (λ l. counts_in role (λ r. length (of_role points r)) step ++ l) has.counts
      ∙ sym (counts_role (λ r. length (of_role points r)) step role)

  pub role_each : All (IsCostBelow old points role) now → All (IsCostBelow old points (role + 1)) new
  role_each all = subst (All (IsCostBelow old points (role + 1))) (sym has.is)
      (all_joined (IsCostBelow old points (role + 1)) now has.added
      (all_imp (IsCostBelow old points role) (IsCostBelow old points (role + 1)) now (λ cost x. (let lt = x.0 in omega (arith, lt), x.1)) all)
      (all_imp (IsCostOfRole loop role (of_role points role)) (IsCostBelow old points (role + 1)) has.added moved has.each))
    where
      moved : (cost : Cost) → IsCostOfRole loop role (of_role points role) cost → IsCostBelow old points (role + 1) cost
      moved cost x = (
        (let e = x.0 in omega (arith, e)),
        subst (λ q. IsCostBy (crash_session old q cost.count) (of_role points q) cost) (sym x.0)
            (subst (λ (y : SessionView). IsCostBy y (of_role points role) cost) (crash_is old loop differs role cost.count) x.1),
      )

pub role_few : (loop : SessionView) (points : List ℕ) (step role : ℕ) (now new : List Cost) → HasCosts loop role points step now new → length points ≤ 100000 → length new ≤ length now + 100001
role_few loop points step role now new has few =
    let whole = ap length has.is in
    let size = length-append now has.added in
    let mapped = length-map has.added at in
    let many = ap length has.counts in
    let counted = length-map-range_with_len (λ k. counted_at role step k) 0 (length points / step + 1) in
    let most = div-le_self (length points) step in
    omega (arith, whole, size, mapped, many, counted, most, few)
  where
    counted_at : ℕ → ℕ → ℕ → At
    counted_at q s k = record { role = q; count = k * s }

-- ---- all

alike : (f g : ℕ → List At) (a n : ℕ) → ((r : ℕ) → a ≤ r → r < a + n → f r ≡ g r) → flat_map f (range_with_len a n) ≡ flat_map g (range_with_len a n)
alike f g a zero same = refl
alike f g a (suc n) same =
    ap (λ l. l ++ flat_map f (range_with_len (a + 1) n)) (same a (omega arith) (omega arith))
    ∙ ap (λ l. g a ++ l) (alike f g (a + 1) n (λ r le lt. same r (omega (arith, le)) (omega (arith, lt))))

shifted_sum : (h : ℕ → ℕ) (a n : ℕ) → sum_by h (range_with_len (a + 1) n) ≡ sum_by (λ r. h (suc r)) (range_with_len a n)
shifted_sum h a zero = refl
shifted_sum h a (suc n) =
    let ih = shifted_sum h (a + 1) n in
    let e = ap h (next a) in
    omega (arith, ih, e, sum_by-cons h (a + 1) (range_with_len (a + 1 + 1) n), sum_by-cons (λ r. h (suc r)) a (range_with_len (a + 1) n))
  where
    next : (k : ℕ) → k + 1 ≡ suc k
    next k = omega arith

by_places : (points : List (Vec ℕ Global)) → sum_by (λ (p : Vec ℕ Global). length p.items + 1) points ≡ sum_by (λ r. length (of_role points r) + 1) (range_with_len 0 (length points))
by_places [] = refl
by_places (p ∷ points) =
    let ih = by_places points in
    let shift = shifted_sum (λ r. length (of_role (p ∷ points) r) + 1) 0 (length points) in
    omega (arith, ih, shift, sum_by-cons (λ (v : Vec ℕ Global). length v.items + 1) p points, sum_by-cons (λ r. length (of_role (p ∷ points) r) + 1) 0 (range_with_len (0 + 1) (length points)))

pub all_told : (session : SessionView) (points : List (Vec ℕ Global)) (costs : Costs) (run : List Entry) → IsCalmRun session run → AreAllPoints session points → costs.step ≡ step_for (all_counts points) → map at costs.list.items ≡ counts_in (roles_of session) (λ r. length (of_role points r)) costs.step → All (IsCostBelow session points (roles_of session)) costs.list.items → AreCosts session costs
all_told session points costs run alone are step so each = record {
  run = run;
  alone = alone;
  step_is = step ∙ ap step_for (by_places points
      ∙ ap (λ n. sum_by (λ r. length (of_role points r) + 1) (range_with_len 0 n)) are.all
      ∙ sums_alike (λ r. length (of_role points r) + 1) (λ r. made_in session run r + 1) 0 (roles_of session) (λ r le lt. ap (λ (l : List ℕ). length l + 1) (own r (omega (arith, lt)))));
  counts = so ∙ alike (λ r. counts_of (length (of_role points r)) costs.step r) (λ r. counts_of (made_in session run r) costs.step r) 0 (roles_of session) (λ r le lt. ap (λ (l : List ℕ). counts_of (length l) costs.step r) (own r (omega (arith, lt))));
  each = all_imp (IsCostBelow session points (roles_of session)) (IsCostOf session run) costs.list.items
      (λ cost x. subst (λ (l : List ℕ). IsCostBy (crash_session session cost.role cost.count) l cost) (own cost.role x.0) x.1)
      each;
}
  where
    own : (r : ℕ) → r < roles_of session → of_role points r ≡ own_points session run r
    own r lt = are.each r lt run alone
