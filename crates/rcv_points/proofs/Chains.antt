-- The chain, followed until it meets a place again.
use Rattle.std.proofs.Common.{◌≡◌, ℕ, ◌<◌, ◌≤◌, List, [], ◌∷◌, ◌++◌, length, refl, sym, ◌∙◌, ap, subst, ◌⊎◌, inl, inr, ⊎_elim, arith}
use Rattle.rcv_model.specs.Net.{Net, IsIn}
use Rattle.rcv_model.specs.Next.{Chain, here, on, IsProper, seen_by, met_by}
use Rattle.rcv_points.specs.Ahead.{IsMetBy}
use Rattle.rcv_points.specs.Found.{Adds, Is, IsForced}
use Rattle.rcv_points.proofs.Adding.{in_kept}
use Rattle.rcv_points.proofs.Meeting.{met_in_text}

-- The chain has come to `at`; at what was met before the role meets something else, and goes on to what was met, or to `at`.
pub record ChainSoFar (net : Net) (r k : ℕ) (wanted met : List ℕ) (at : ℕ) : Type 0 where
  pub chain : Chain (seen_by net r) r k at
  pub start : IsIn k met ⊎ (at ≡ k)
  pub others : (j : ℕ) → IsIn j met → met_by net r j ≡ wanted → ⊥
  pub closed : (j p : ℕ) → IsIn j met → IsForced net r (met_by net r j) p → IsIn p met ⊎ (p ≡ at)

module _ (net : Net) (r : ℕ) where
  pub chain_start : (k : ℕ) (wanted : List ℕ) → ChainSoFar net r k wanted [] k
  chain_start k wanted = record { chain = here; start = inr refl; others = λ j i e. i; closed = λ j p i f. absurd i }

  pub chain_within : (roles : ℕ) {k j : ℕ} → IsProper net roles → k ≤ net.count → Chain (seen_by net r) r k j → j ≤ net.count
  chain_within roles proper le here = le
  chain_within roles proper le (on {j = j} {p = p} c e n) = (met_in_text net roles r j p proper (subst (IsIn p) (sym e) (inl refl))).1

  all_met : {k : ℕ} (met : List ℕ) → IsIn k met → ((j p : ℕ) → IsIn j met → IsForced net r (met_by net r j) p → IsIn p met) → {j : ℕ} → Chain (seen_by net r) r k j → IsIn j met
  all_met met i closed here = i
  all_met met i closed (on {j = j} {p = p} c e n) = closed j p (all_met met i closed c) (e, n)

  -- the chain has come back
  pub chain_back : (k : ℕ) (wanted met : List ℕ) (at : ℕ) → ChainSoFar net r k wanted met at → IsIn at met → IsMetBy net r k wanted → ⊥
  chain_back k wanted met at s i a = s.others a.0 (all_met met start closed a.1) a.2
    where
      start : IsIn k met
      start = ⊎_elim (λ m. m) (λ e. subst (λ x. IsIn x met) e i) s.start

      closed : (j p : ℕ) → IsIn j met → IsForced net r (met_by net r j) p → IsIn p met
      closed j p m f = ⊎_elim (λ n. n) (λ e. subst (λ x. IsIn x met) (sym e) i) (s.closed j p m f)

  -- the place that the chain has come to is met too, and the role meets something else there
  one_met : (k : ℕ) (wanted met new : List ℕ) (at : ℕ) → ChainSoFar net r k wanted met at → Adds (Is at) met new → (met_by net r at ≡ wanted → ⊥) → IsIn k new × ((j : ℕ) → IsIn j new → met_by net r j ≡ wanted → ⊥)
  one_met k wanted met new at s a n = (
    ⊎_elim (λ m. in_kept k met new a.kept m) (λ e. a.all k (sym e)) s.start,
    λ j i e. ⊎_elim (λ m. s.others j m e) (λ f. n (ap (met_by net r) (sym f) ∙ e)) (a.only j i),
  )

  -- it goes on
  pub chain_on : (k : ℕ) (wanted met new : List ℕ) (at p : ℕ) → ChainSoFar net r k wanted met at → Adds (Is at) met new → (met_by net r at ≡ wanted → ⊥) → IsForced net r (met_by net r at) p → ChainSoFar net r k wanted new p
  chain_on k wanted met new at p s a n f =
      let both = one_met k wanted met new at s a n in
      record {
        chain = on s.chain f.0 f.1;
        start = inl both.0;
        others = both.1;
        closed = λ j q i g. ⊎_elim
            (λ m. ⊎_elim (λ o. inl (in_kept q met new a.kept o)) (λ e. inl (a.all q e)) (s.closed j q m g))
            (λ e. inr (same q (sym (ap (met_by net r) e) ∙ g.0) f.0))
            (a.only j i);
      }
    where
      same : (q : ℕ) → met_by net r at ≡ q ∷ [] → met_by net r at ≡ p ∷ [] → q ≡ p
      same q e g = cc

  -- it ends
  pub chain_ends : (k : ℕ) (wanted met new : List ℕ) (at : ℕ) → ChainSoFar net r k wanted met at → Adds (Is at) met new → (met_by net r at ≡ wanted → ⊥) → ((p : ℕ) → IsForced net r (met_by net r at) p → ⊥) → IsMetBy net r k wanted → ⊥
  chain_ends k wanted met new at s a n f b =
      let both = one_met k wanted met new at s a n in
      both.1 b.0 (all_met new both.0 closed b.1) b.2
    where
      closed : (j p : ℕ) → IsIn j new → IsForced net r (met_by net r j) p → IsIn p new
      closed j p i g = ⊎_elim
          (λ m. ⊎_elim (λ o. in_kept p met new a.kept o) (λ e. a.all p e) (s.closed j p m g))
          (λ e. absurd (f p (subst (λ x. IsForced net r (met_by net r x) p) e g)))
          (a.only j i)

-- a place more
pub longer : (met new : List ℕ) (at : ℕ) → Adds (Is at) met new → (IsIn at met → ⊥) → length met < length new
longer met new at a n = subst (λ l. length met < length l) a.kept.1 (go met a.kept.0 (λ e. n (subst (IsIn at) (sym (e ∙ a.kept.1)) (a.all at refl))))
  where
    go : (xs ys : List ℕ) → (xs ≡ xs ++ ys → ⊥) → length xs < length (xs ++ ys)
    go [] [] m = absurd (m refl)
    go [] (y ∷ ys) m = omega arith
    go (x ∷ xs) ys m = let ih = go xs ys (λ e. m (ap (λ l. x ∷ l) e)) in omega arith
