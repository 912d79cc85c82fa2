-- The recovery table of the worked text with lanes, for a failure of A at b: A and B restart at b, C at e behind its lane,
-- and D, in the lane beside, nowhere. These are the lists of restart points, with no other point.
use Rattle.std.proofs.Common.{◌≡◌, ℕ, zero, suc, ◌<◌, List, [], ◌∷◌, ◌++◌, refl, sym, subst, ◌⊎◌, inl, inr, ⊎_elim, arith}
use Rattle.std.specs.List.Sorted.{IsStrictlyIncreasing}
use Rattle.rcv_model.specs.Net.{IsIn, opened, IsWalk}
use Rattle.rcv_model.specs.Table.{marks, IsMarkedAt, IsRestart, IsConcerned, AreRestarts}
use Rattle.rcv_model.proofs.Lanes.{Opens, at_own, at_later, at_shut, opens, walk_in_text}
use Rattle.rcv_model.proofs.Same.{rises_nil, union_rises}
use Rattle.rcv_parallel.proofs.LaneSession.{net, text_proper}

-- ---- from the place behind b on, e alone comes

none_open : (l : ℕ) → net.stage l < 2 → opened net 2 l ≡ []
none_open l lt = go (opens net 2 l)
  where
    go : Opens net 2 l → opened net 2 l ≡ []
    go (at_own e f) = f
    go (at_later n less f) = absurd (omega (arith, lt, less))
    go (at_shut n m f) = f

pub e_behind_b : IsWalk net 2 (4 ∷ [])
e_behind_b = (record { offered = inl refl; ended = none_open }, tt)

first_is_e : (p : ℕ) (w : List ℕ) → IsWalk net 2 (p ∷ w) → p ≡ 4
first_is_e zero w walk = absurd (let t = (walk_in_text net 4 2 0 [] w text_proper walk).0 in omega arith)
first_is_e (suc zero) w walk = absurd walk.0.offered
first_is_e (suc (suc zero)) w walk = absurd walk.0.offered
first_is_e (suc (suc (suc zero))) w walk = absurd walk.0.offered
first_is_e (suc (suc (suc (suc zero)))) w walk = refl
first_is_e (suc (suc (suc (suc (suc p))))) w walk = absurd (let t = (walk_in_text net 4 2 (suc (suc (suc (suc (suc p))))) [] w text_proper walk).1 in omega arith)

none_behind_e : (p : ℕ) (w : List ℕ) → IsWalk net 2 (4 ∷ p ∷ w) → ⊥
none_behind_e zero w walk = let t = (walk_in_text net 4 2 0 (4 ∷ []) w text_proper walk).0 in omega arith
none_behind_e (suc zero) w walk = walk.1.0.offered
none_behind_e (suc (suc zero)) w walk = walk.1.0.offered
none_behind_e (suc (suc (suc zero))) w walk = walk.1.0.offered
none_behind_e (suc (suc (suc (suc zero)))) w walk = walk.1.0.offered
none_behind_e (suc (suc (suc (suc (suc p))))) w walk = let t = (walk_in_text net 4 2 (suc (suc (suc (suc (suc p))))) (4 ∷ []) w text_proper walk).1 in omega arith

walks_are : (w : List ℕ) → IsWalk net 2 w → (w ≡ []) ⊎ (w ≡ 4 ∷ [])
walks_are [] walk = inl refl
walks_are (p ∷ []) walk = inr (let e = first_is_e p [] walk in cc)
walks_are (p ∷ q ∷ w) walk = absurd (none_behind_e q w (subst (λ x. IsWalk net 2 (x ∷ q ∷ w)) (first_is_e p (q ∷ w) walk) walk))

-- ---- who is first marked where

pub marked_where : (q z : ℕ) → IsMarkedAt net 0 2 q z → ((z ≡ 2) × IsIn q (marks net (0 ∷ []) (2 ∷ []))) ⊎ ((z ≡ 4) × (IsIn q (marks net (0 ∷ []) (2 ∷ [])) → ⊥) × IsIn q (marks net (0 ∷ []) (2 ∷ 4 ∷ [])))
marked_where q z m = go m.before m.after m.not_yet m.now (⊎_elim (λ e. inl (subst (λ w. m.before ++ z ∷ m.after ≡ 2 ∷ w) e m.walk.2)) (λ e. inr (subst (λ w. m.before ++ z ∷ m.after ≡ 2 ∷ w) e m.walk.2)) (walks_are m.walk.0 m.walk.1))
  where
    go : (u v : List ℕ) → (IsIn q (marks net (0 ∷ []) u) → ⊥) → IsIn q (marks net (0 ∷ []) (u ++ z ∷ [])) → (u ++ z ∷ v ≡ 2 ∷ []) ⊎ (u ++ z ∷ v ≡ 2 ∷ 4 ∷ []) → ((z ≡ 2) × IsIn q (marks net (0 ∷ []) (2 ∷ []))) ⊎ ((z ≡ 4) × (IsIn q (marks net (0 ∷ []) (2 ∷ [])) → ⊥) × IsIn q (marks net (0 ∷ []) (2 ∷ 4 ∷ [])))
    go [] v not_yet now (inl e) = let f : z ≡ 2 = cc in inl (f, subst (λ x. IsIn q (marks net (0 ∷ []) (x ∷ []))) f now)
    go [] v not_yet now (inr e) = let f : z ≡ 2 = cc in inl (f, subst (λ x. IsIn q (marks net (0 ∷ []) (x ∷ []))) f now)
    go (x ∷ []) v not_yet now (inl e) = absurd (cc)
    go (x ∷ []) v not_yet now (inr e) =
        let f : x ≡ 2 = cc in
        let g : z ≡ 4 = cc in
        inr (g, subst (λ y. IsIn q (marks net (0 ∷ []) (y ∷ [])) → ⊥) f not_yet, subst (λ y. IsIn q (marks net (0 ∷ []) (2 ∷ y ∷ []))) g (subst (λ y. IsIn q (marks net (0 ∷ []) (y ∷ z ∷ []))) f now))
    go (x ∷ y ∷ u) v not_yet now (inl e) = absurd (cc)
    go (x ∷ y ∷ u) v not_yet now (inr e) = absurd (too_long u v e)
      where
        too_long : (u v : List ℕ) → x ∷ y ∷ (u ++ z ∷ v) ≡ 2 ∷ 4 ∷ [] → ⊥
        too_long [] v e = cc
        too_long (a ∷ u) v e = cc

rises_one : (z : ℕ) → IsStrictlyIncreasing (z ∷ [])
rises_one z = union_rises (z ∷ []) [] rises_nil

-- at b A and B are marked, and at e C besides
b_marks : marks net (0 ∷ []) (2 ∷ []) ≡ 1 ∷ 0 ∷ []
b_marks = refl

e_marks : marks net (0 ∷ []) (2 ∷ 4 ∷ []) ≡ 2 ∷ 1 ∷ 0 ∷ []
e_marks = refl

-- ---- the row: A at b, B at b, C at e

pub a_row : AreRestarts net 0 2 0 (2 ∷ [])
a_row = record { ascending = rises_one 2; sound = λ z i. ⊎_elim (λ e. inl (refl, e)) (λ n. absurd n) i; complete = λ z r. complete z r }
  where
    complete : (z : ℕ) → IsRestart net 0 2 0 z → IsIn z (2 ∷ [])
    complete z (inl e) = inl e.1
    complete z (inr m) = absurd (m.0 refl)

pub b_row : AreRestarts net 0 2 1 (2 ∷ [])
b_row = record { ascending = rises_one 2; sound = sound; complete = complete }
  where
    at_2 : IsMarkedAt net 0 2 1 2
    at_2 = record { before = []; after = []; walk = ([], tt, refl); not_yet = λ i. ⊎_elim (λ e. omega (arith, e)) (λ n. n) i; now = inl refl }

    sound : (z : ℕ) → IsIn z (2 ∷ []) → IsRestart net 0 2 1 z
    sound z (inl e) = subst (IsRestart net 0 2 1) (sym e) (inr ((λ f. omega (arith, f)), at_2))
    sound z (inr n) = absurd n

    complete : (z : ℕ) → IsRestart net 0 2 1 z → IsIn z (2 ∷ [])
    complete z (inl e) = absurd (omega (arith, e.0))
    complete z (inr m) = ⊎_elim (λ a. inl a.0) (λ a. absurd (a.1 (inl refl))) (marked_where 1 z m.1)

pub c_row : AreRestarts net 0 2 2 (4 ∷ [])
c_row = record { ascending = rises_one 4; sound = sound; complete = complete }
  where
    c_free : IsIn 2 (1 ∷ 0 ∷ []) → ⊥
    c_free (inl e) = omega (arith, e)
    c_free (inr (inl e)) = omega (arith, e)
    c_free (inr (inr n)) = n

    at_4 : IsMarkedAt net 0 2 2 4
    at_4 = record { before = 2 ∷ []; after = []; walk = (4 ∷ [], e_behind_b, refl); not_yet = c_free; now = inl refl }

    sound : (z : ℕ) → IsIn z (4 ∷ []) → IsRestart net 0 2 2 z
    sound z (inl e) = subst (IsRestart net 0 2 2) (sym e) (inr ((λ f. omega (arith, f)), at_4))
    sound z (inr n) = absurd n

    complete : (z : ℕ) → IsRestart net 0 2 2 z → IsIn z (4 ∷ [])
    complete z (inl e) = absurd (omega (arith, e.0))
    complete z (inr m) = ⊎_elim (λ a. absurd (c_free a.1)) (λ a. inl a.0) (marked_where 2 z m.1)

-- D restarts nowhere: A's failure doesn't concern it
pub d_row : AreRestarts net 0 2 3 []
d_row = record { ascending = rises_nil; sound = λ z i. absurd i; complete = complete }
  where
    d_free : IsIn 3 (2 ∷ 1 ∷ 0 ∷ []) → ⊥
    d_free (inl e) = omega (arith, e)
    d_free (inr (inl e)) = omega (arith, e)
    d_free (inr (inr (inl e))) = omega (arith, e)
    d_free (inr (inr (inr n))) = n

    complete : (z : ℕ) → IsRestart net 0 2 3 z → IsIn z []
    complete z (inl e) = omega (arith, e.0)
    complete z (inr m) = ⊎_elim (λ a. d_free (inr a.1)) (λ a. d_free a.2) (marked_where 3 z m.1)

pub d_not_concerned : IsConcerned net 0 2 3 → ⊥
d_not_concerned c = d_row.complete c.0 c.1
