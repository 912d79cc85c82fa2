-- A protocol with lanes side by side is accepted, found by computing: for worked examples.
use Rattle.std.proofs.Common.{◌≡◌, ℕ, zero, suc, ◌+◌, ◌<◌, ◌≤◌, Bool, true, false, ◌||◌, ◌&&◌, not, List, [], ◌∷◌, ◌++◌, refl, inl, inr, ⊎_elim, arith, eq-eqb}
use Rattle.std.specs.Prelude.{◌==◌, ◌↔◌, nat_lt}
use Rattle.std.specs.List.{range_with_len}
use Rattle.std.proofs.lemmas.Bool.Decides.{nat_tests}
use Rattle.std.proofs.lemmas.Slice.Eq.{bytes_eq-Decides}
use Rattle.rcv_model.specs.Net.{Net, IsIn, opened, IsWalk, IsEnded}
use Rattle.rcv_model.specs.Next.{IsOf, HasNone, IsNext, AreNext, points_in, met_by, seen_by, Chain, here, on, HasLater, CanEnd, IsPlaceOf, IsProper, IsAccepted}
use Rattle.rcv_model.proofs.Checked.{own_point, all_of, implies, both_true, when, of_all, fit_pair, fit_pairs, is_one, the_one, enables, is_none, same_of, same_items}
use Rattle.rcv_model.proofs.Completing.{EndsBy, at_end, by_way}
use Rattle.rcv_model.proofs.NextLists.{from_in, in_range}
use Rattle.rcv_model.proofs.Parted.{ComesToEnd, end_by_lanes}
use Rattle.rcv_parallel.proofs.InLanes.{any_of, some_true, any_true, is_own, is_closed, can_end, ends_yes, ends_no}
use Rattle.rcv_parallel.proofs.LaneNexts.{lane_from, comes, nexts_at, are_closed, of_points, comes_yes, next_in}

-- the rules of acceptance at one place, where these are the role's next points there
abbrev pub fits_with : Net → ℕ → ℕ → List ℕ → Bool
fits_with net r k zs =
    are_closed net r k
    && (fit_pairs net r zs
    && (implies (all_of (λ z. net.sender z == r) zs) (is_none zs || enables (seen_by net r) r zs net.count k)
    && (is_none zs || any_of (λ q. not (can_end net r (lane_from net k q))) (points_in net))))

abbrev pub fits_lanes : Net → ℕ → Bool
fits_lanes net r = all_of (λ k. implies (k == 0 || own_point net r k) (fits_with net r k (nexts_at net r k))) (range_with_len 0 (net.count + 1))

-- each point is reached, and each lane that a later stage follows can be ended; `roles` is nobody's number
abbrev pub is_later : Net → ℕ → ℕ → Bool
is_later net p q = nat_lt (net.stage (net.lane p)) (net.stage (net.lane q))

abbrev pub all_come : Net → ℕ → Bool
all_come net roles = all_of (comes net roles 0) (points_in net)

abbrev pub all_end : Net → ℕ → Bool
all_end net roles = all_of (λ p. implies (any_of (is_later net p) (points_in net)) (can_end net roles (net.offers p))) (points_in net)

abbrev pub accepts_lanes : Net → ℕ → Bool
accepts_lanes net roles = all_of (fits_lanes net) (range_with_len 0 roles) && (all_come net roles && all_end net roles)

one_is : (xs : List ℕ) → is_one xs ≡ true → xs ≡ the_one xs ∷ []
one_is [] e = absurd (cc)
one_is (x ∷ []) e = refl
one_is (x ∷ y ∷ ys) e = absurd (cc)

none_in : (z : ℕ) (xs : List ℕ) → IsIn z xs → is_none xs ≡ false
none_in z [] i = absurd i
none_in z (x ∷ xs) i = refl

right_of : (a b : Bool) → a ≡ false → (a || b) ≡ true → b ≡ true
right_of true b e t = absurd (cc)
right_of false b e t = t

chain_by : (net : Net) (r : ℕ) (zs : List ℕ) (n k j : ℕ) → Chain net r k j → enables net r zs n j ≡ true → (l : ℕ) × Chain net r k l × ((x : ℕ) → IsIn x (net.offers l) ↔ IsIn x zs)
chain_by net r zs zero k j c e = (j, c, same_of (net.offers j) zs e)
chain_by net r zs (suc n) k j c e = go (same_items (net.offers j) zs) refl e (λ p c t. chain_by net r zs n k p c t)
  where
    go : (b : Bool) → same_items (net.offers j) zs ≡ b → (b || (is_one (net.offers j) && (not (own_point net r (the_one (net.offers j))) && enables net r zs n (the_one (net.offers j))))) ≡ true → ((p : ℕ) → Chain net r k p → enables net r zs n p ≡ true → (l : ℕ) × Chain net r k l × ((x : ℕ) → IsIn x (net.offers l) ↔ IsIn x zs)) → (l : ℕ) × Chain net r k l × ((x : ℕ) → IsIn x (net.offers l) ↔ IsIn x zs)
    go true f t ih = (j, c, same_of (net.offers j) zs f)
    go false f t ih =
        let a = both_true (is_one (net.offers j)) (not (own_point net r (the_one (net.offers j))) && enables net r zs n (the_one (net.offers j))) t in
        let b = both_true (not (own_point net r (the_one (net.offers j)))) (enables net r zs n (the_one (net.offers j))) a.1 in
        ih (the_one (net.offers j)) (on c (one_is (net.offers j) a.0) (λ o. let u = is_own net r (the_one (net.offers j)) o in let g = b.0 in grind (arith, nat_tests))) b.1

module _ (net : Net) (roles : ℕ) (proper : IsProper net roles) where
  record Fits (r k : ℕ) : Type 0 where
    closed : are_closed net r k ≡ true
    next : AreNext net r k (nexts_at net r k)
    pairs : (x y : ℕ) → IsNext net r k x → IsNext net r k y → fit_pair net r x y ≡ true
    enabled : all_of (λ z. net.sender z == r) (nexts_at net r k) ≡ true → (is_none (nexts_at net r k) || enables (seen_by net r) r (nexts_at net r k) net.count k) ≡ true
    goes_on : (is_none (nexts_at net r k) || any_of (λ q. not (can_end net r (lane_from net k q))) (points_in net)) ≡ true

  fits_by : (r k : ℕ) → fits_with net r k (nexts_at net r k) ≡ true → Fits r k
  fits_by r k t =
      let a = both_true (are_closed net r k) (fit_pairs net r (nexts_at net r k) && (implies (all_of (λ z. net.sender z == r) (nexts_at net r k)) (is_none (nexts_at net r k) || enables (seen_by net r) r (nexts_at net r k) net.count k) && (is_none (nexts_at net r k) || any_of (λ q. not (can_end net r (lane_from net k q))) (points_in net)))) t in
      let b = both_true (fit_pairs net r (nexts_at net r k)) (implies (all_of (λ z. net.sender z == r) (nexts_at net r k)) (is_none (nexts_at net r k) || enables (seen_by net r) r (nexts_at net r k) net.count k) && (is_none (nexts_at net r k) || any_of (λ q. not (can_end net r (lane_from net k q))) (points_in net))) a.1 in
      let c = both_true (implies (all_of (λ z. net.sender z == r) (nexts_at net r k)) (is_none (nexts_at net r k) || enables (seen_by net r) r (nexts_at net r k) net.count k)) (is_none (nexts_at net r k) || any_of (λ q. not (can_end net r (lane_from net k q))) (points_in net)) b.1 in
      let next : AreNext net r k (nexts_at net r k) = next_in net roles proper r k a.0 in
      record {
        closed = a.0;
        next = next;
        pairs = λ x y nx ny. of_all (fit_pair net r x) y (nexts_at net r k) (of_all (λ x. all_of (λ y. fit_pair net r x y) (nexts_at net r k)) x (nexts_at net r k) b.0 (next.complete x nx)) (next.complete y ny);
        enabled = λ e. when (all_of (λ z. net.sender z == r) (nexts_at net r k)) (is_none (nexts_at net r k) || enables (seen_by net r) r (nexts_at net r k) net.count k) c.0 e;
        goes_on = c.1;
      }

  module _ (roles_fit : all_of (fits_lanes net) (range_with_len 0 roles) ≡ true) (come : all_come net roles ≡ true) (end : all_end net roles ≡ true) where
    fits : (r k : ℕ) → r < roles → IsPlaceOf net r k → Fits r k
    fits r k lt at =
        let a = of_all (fits_lanes net) r (range_with_len 0 roles) roles_fit (from_in r (range_with_len 0 roles) (in_range 0 roles r (omega arith) (omega arith))) in
        let b = of_all (λ k. implies (k == 0 || own_point net r k) (fits_with net r k (nexts_at net r k))) k (range_with_len 0 (net.count + 1)) a (from_in k (range_with_len 0 (net.count + 1)) (in_range 0 (net.count + 1) k (omega arith) (let l = low in omega arith))) in
        fits_by r k (when (k == 0 || own_point net r k) (fits_with net r k (nexts_at net r k)) b own)
      where
        low : k < net.count + 1
        low = ⊎_elim (λ e. omega (arith, e)) (λ a. let b = a.1 in omega arith) at

        own : (k == 0 || own_point net r k) ≡ true
        own = ⊎_elim (λ e. let t = eq-eqb k 0 e in grind (arith, nat_tests)) (λ a. let t = is_own net r k a.2 in grind (arith, nat_tests)) at

    all_sends : (r : ℕ) (zs : List ℕ) → ((z : ℕ) → IsIn z zs → net.sender z ≡ r) → all_of (λ z. net.sender z == r) zs ≡ true
    all_sends r [] all = refl
    all_sends r (z ∷ zs) all = let a = eq-eqb (net.sender z) r (all z (inl refl)) in let b = all_sends r zs (λ y i. all y (inr i)) in grind (arith, nat_tests)

    enabled_at : (r k z : ℕ) → Fits r k → IsNext net r k z → ((x : ℕ) → IsNext net r k x → net.sender x ≡ r) → (j : ℕ) × Chain (seen_by net r) r k j × ((x : ℕ) → IsIn x (met_by net r j) ↔ IsNext net r k x)
    enabled_at r k z f nz own =
        let t = right_of (is_none (nexts_at net r k)) (enables (seen_by net r) r (nexts_at net r k) net.count k) (none_in z (nexts_at net r k) (f.next.complete z nz)) (f.enabled (all_sends r (nexts_at net r k) (λ x i. own x (f.next.sound x i)))) in
        let c = chain_by (seen_by net r) r (nexts_at net r k) net.count k k here t in
        (c.0, c.1, λ x. (λ i. f.next.sound x ((c.2 x).0 i), λ n. (c.2 x).1 (f.next.complete x n)))

    never : (r k z : ℕ) (w : List ℕ) → Fits r k → IsNext net r k z → IsWalk net k w → IsEnded net k w → HasNone net r w → ⊥
    never r k z w f nz walk ended none =
        let t = right_of (is_none (nexts_at net r k)) (any_of (λ q. not (can_end net r (lane_from net k q))) (points_in net)) (none_in z (nexts_at net r k) (f.next.complete z nz)) f.goes_on in
        let a = some_true (λ q. not (can_end net r (lane_from net k q))) (points_in net) t in
        let closed = of_all (λ q. is_closed net r (lane_from net k q)) a.0 (points_in net) f.closed a.1 in
        let by : ComesToEnd net roles proper r (opened net k) = record { way = w; walk = walk; none = none; ended = ended } in
        let b = ends_no net r (lane_from net k a.0) closed (end_by_lanes net roles proper r (opened net k) by (net.lane a.0)) in
        let n = a.2 in
        grind (arith, nat_tests)

    reached_at : (p : ℕ) → 1 ≤ p → p ≤ net.count → (w : List ℕ) × IsWalk net 0 (w ++ p ∷ [])
    reached_at p low high = let c = comes_yes net roles proper roles 0 p (of_points net (comes net roles 0) p come low high) in (c.way, c.walk)

    ends_at : (p : ℕ) → 1 ≤ p → p ≤ net.count → HasLater net p → CanEnd net p
    ends_at p low high later = go (ends_yes net roles (net.offers p) (when (any_of (is_later net p) (points_in net)) (can_end net roles (net.offers p)) (of_points net (λ p. implies (any_of (is_later net p) (points_in net)) (can_end net roles (net.offers p))) p end low high) some))
      where
        some : any_of (is_later net p) (points_in net) ≡ true
        some = any_true (is_later net p) later.0 (points_in net) (from_in later.0 (points_in net) (in_range 1 net.count later.0 later.1 (let h = later.2 in omega arith))) (let h = later.3 in grind (arith, nat_tests))

        go : EndsBy net (λ x. IsOf net roles x → ⊥) (net.offers p) → CanEnd net p
        go (at_end e) = ([], tt, e)
        go (by_way x v i walk ended free) = (x ∷ v, (i, walk), ended)

    pub accepted_in_lanes : IsAccepted net roles
    accepted_in_lanes = record {
      unmixed = λ r k x y lt at nx ny s t. let p = (fits r k lt at).pairs x y nx ny in let a = eq-eqb (net.sender x) r s in let b = eq-eqb (net.receiver y) r t in grind (arith, nat_tests);
      one_sender = λ r k x y lt at nx ny s t. let p = (fits r k lt at).pairs x y nx ny in let a = eq-eqb (net.receiver x) r s in let b = eq-eqb (net.receiver y) r t in grind (arith, nat_tests);
      labels_in = λ r k x y lt at nx ny s t l. let p = (fits r k lt at).pairs x y nx ny in let a = eq-eqb (net.receiver x) r s in let b = eq-eqb (net.receiver y) r t in let c = (bytes_eq-Decides (net.label x) (net.label y)).1 l in grind (arith, nat_tests);
      labels_out = λ r k x y lt at nx ny s t u l. let p = (fits r k lt at).pairs x y nx ny in let a = eq-eqb (net.sender x) r s in let b = eq-eqb (net.sender y) r t in let d = eq-eqb (net.receiver x) (net.receiver y) u in let c = (bytes_eq-Decides (net.label x) (net.label y)).1 l in grind (arith, nat_tests);
      enabled = λ r k z lt at nz own. enabled_at r k z (fits r k lt at) nz own;
      never_done = λ r k z w lt at nz walk ended none. never r k z w (fits r k lt at) nz walk ended none;
      reached = λ p low high. reached_at p low high;
      lanes_end = λ p low high later. ends_at p low high later;
    }
