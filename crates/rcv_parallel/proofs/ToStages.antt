-- A walk in text order, told stage by stage.
use Rattle.std.proofs.Common.{◌≡◌, ℕ, zero, suc, ◌+◌, ◌-◌, ◌<◌, ◌≤◌, List, [], ◌∷◌, ◌++◌, refl, sym, ◌∙◌, ap, subst, ◌⊎◌, inl, inr, ⊎_elim, arith}
use Rattle.std.proofs.lemmas.Bool.{cases_eq, cases_lt}
use Rattle.rcv_model.specs.Net.{Net, IsLaneEnded}
use Rattle.rcv_parallel.specs.TextOrder.{HasLanesInOrder, IsWalkFromStart, IsEndedFromStart, AreLaneWalks, joined, AreEnded}
use Rattle.rcv_parallel.specs.ByStages.{AreStageWalks, GoesByStages, IsBehindAll}
use Rattle.rcv_parallel.proofs.Splitting.{joined_none, SplitAt, split_at, only, only_here, only_else, joined_only, stage_only, stage_here, stage_else, stages_from, from_here, from_none, one_stage}

-- the last of some lanes behind stage s that has a point
record LastPoint (net : Net) (walks : ℕ → List ℕ) (s n : ℕ) : Type 0 where
  lane : ℕ
  within : lane < n
  later : s < net.stage lane
  some : walks lane ≡ [] → ⊥
  none : (l : ℕ) → lane < l → l < n → s < net.stage l → walks l ≡ []

last_point : (net : Net) (walks : ℕ → List ℕ) (s n : ℕ) → LastPoint net walks s n ⊎ ((l : ℕ) → l < n → s < net.stage l → walks l ≡ [])
last_point net walks s zero = inr (λ l lt less. absurd (omega (arith, lt)))
last_point net walks s (suc n) = go (last_point net walks s n) (walks n) refl
  where
    before : LastPoint net walks s n ⊎ ((l : ℕ) → l < n → s < net.stage l → walks l ≡ []) → (s < net.stage n → walks n ≡ []) → LastPoint net walks s (suc n) ⊎ ((l : ℕ) → l < suc n → s < net.stage l → walks l ≡ [])
    before (inl p) e = inl (record { lane = p.lane; within = (let lt = p.within in omega (arith, lt)); later = p.later; some = p.some; none = none })
      where
        none : (l : ℕ) → p.lane < l → l < suc n → s < net.stage l → walks l ≡ []
        none l up lt less = ⊎_elim (λ f. ap walks f ∙ e (subst (λ m. s < net.stage m) f less)) (λ m. p.none l up (omega (arith, m, lt)) less) (cases_eq l n)
    before (inr none) e = inr (λ l lt less. ⊎_elim (λ f. ap walks f ∙ e (subst (λ m. s < net.stage m) f less)) (λ m. none l (omega (arith, m, lt)) less) (cases_eq l n))

    go : LastPoint net walks s n ⊎ ((l : ℕ) → l < n → s < net.stage l → walks l ≡ []) → (u : List ℕ) → walks n ≡ u → LastPoint net walks s (suc n) ⊎ ((l : ℕ) → l < suc n → s < net.stage l → walks l ≡ [])
    go d [] e = before d (λ less. e)
    go d (x ∷ u) e = ⊎_elim
        (λ less. inl (record { lane = n; within = omega arith; later = less; some = λ f. (let g : x ∷ u ≡ [] = sym e ∙ f in cc); none = λ l up lt less'. absurd (omega (arith, up, lt)) }))
        (λ le. before d (λ less. absurd (omega (arith, le, less))))
        (cases_lt s (net.stage n))

module _ (net : Net) (roles lanes k : ℕ) (walks : ℕ → List ℕ) (has : HasLanesInOrder net roles lanes) (are : AreLaneWalks net lanes k walks) where
  -- n stages from stage s on: no later one has a point, and each lane before the last is ended
  through : (n s : ℕ) → net.stage (net.lane k) < s → ((l : ℕ) → l < lanes → s ≤ net.stage l → net.stage l + 1 < s + n → IsEndedFromStart net l (walks l)) → ((l : ℕ) → l < lanes → s + n ≤ net.stage l → walks l ≡ []) → AreStageWalks net lanes n s (joined lanes (stages_from net walks s))
  through zero s low ended none = joined_none lanes (stages_from net walks s) (λ l lt. ⊎_elim (λ less. from_none net walks s l less) (λ le. from_here net walks s l le ∙ none l lt (omega (arith, le))) (cases_lt (net.stage l) s))
  through (suc n) s low ended none = record {
    front = joined lanes (stage_only net walks s);
    rest = joined lanes (stages_from net walks (s + 1));
    whole = sym (split_at net roles lanes s (stages_from net walks s) (stage_only net walks s) (stages_from net walks (s + 1)) has (one_stage net lanes s walks) lanes (omega arith));
    walk = record {
      walks = stage_only net walks s;
      each = λ l lt e. subst (IsWalkFromStart net l) (sym (stage_here net walks s l e)) (are.later l lt (omega (arith, low, e)));
      none = λ l lt m. stage_else net walks s l m;
      whole = refl;
    };
    ended = λ some l lt e. subst (IsEndedFromStart net l) (sym (stage_here net walks s l e)) (ended l lt (omega (arith, e)) (omega (arith, e, some)));
    behind = through n (s + 1) (omega (arith, low)) (λ l lt le less. ended l lt (omega (arith, le)) (omega (arith, less))) (λ l lt le. none l lt (omega (arith, le)));
  }

  -- the lane of k, and the stages behind it
  own_first : SplitAt net lanes (net.stage (net.lane k)) walks (only (net.lane k) (walks (net.lane k))) (stages_from net walks (net.stage (net.lane k) + 1))
  own_first = record {
    upto = λ l lt le. (
      ⊎_elim
          (λ e. ap walks e ∙ sym (only_here (net.lane k) l (walks (net.lane k)) e))
          (λ m. are.shut l lt m le ∙ sym (only_else (net.lane k) l (walks (net.lane k)) m))
          (cases_eq l (net.lane k)),
      from_none net walks (net.stage (net.lane k) + 1) l (omega (arith, le)),
    );
    behind = λ l lt less. (
      sym (from_here net walks (net.stage (net.lane k) + 1) l (omega (arith, less))),
      only_else (net.lane k) l (walks (net.lane k)) (λ e. omega (arith, less, ap net.stage e)),
    );
  }

  own_and : joined lanes walks ≡ walks (net.lane k) ++ joined lanes (stages_from net walks (net.stage (net.lane k) + 1))
  own_and =
      split_at net roles lanes (net.stage (net.lane k)) walks (only (net.lane k) (walks (net.lane k))) (stages_from net walks (net.stage (net.lane k) + 1)) has own_first lanes (omega arith)
      ∙ ap (λ u. u ++ joined lanes (stages_from net walks (net.stage (net.lane k) + 1))) (joined_only lanes (net.lane k) (walks (net.lane k)) (has.has_lane k))

  by_stages : (n : ℕ) → (0 < n → IsLaneEnded net k (walks (net.lane k))) → AreStageWalks net lanes n (net.stage (net.lane k) + 1) (joined lanes (stages_from net walks (net.stage (net.lane k) + 1))) → GoesByStages net lanes k (joined lanes walks)
  by_stages n ended behind = record {
    front = walks (net.lane k);
    rest = joined lanes (stages_from net walks (net.stage (net.lane k) + 1));
    whole = sym own_and;
    following = n;
    walk = are.own;
    ended = ended;
    behind = behind;
  }

  pub to_stages : GoesByStages net lanes k (joined lanes walks)
  to_stages = go (last_point net walks (net.stage (net.lane k)) lanes)
    where
      go : LastPoint net walks (net.stage (net.lane k)) lanes ⊎ ((l : ℕ) → l < lanes → net.stage (net.lane k) < net.stage l → walks l ≡ []) → GoesByStages net lanes k (joined lanes walks)
      go (inr none) = by_stages 0 (λ lt. absurd (omega (arith, lt))) (through 0 (net.stage (net.lane k) + 1) (omega arith) (λ l lt le less. absurd (omega (arith, le, less))) (λ l lt le. none l lt (omega (arith, le))))
      go (inl p) = by_stages n (λ lt. (are.in_turn (net.lane k) p.lane (has.has_lane k) p.within p.later p.some).own refl) (through n (net.stage (net.lane k) + 1) (omega arith) ended none)
        where
          n : ℕ
          n = net.stage p.lane - net.stage (net.lane k)

          ended : (l : ℕ) → l < lanes → net.stage (net.lane k) + 1 ≤ net.stage l → net.stage l + 1 < net.stage (net.lane k) + 1 + (net.stage p.lane - net.stage (net.lane k)) → IsEndedFromStart net l (walks l)
          ended l lt le less = let high = p.later in (are.in_turn l p.lane lt p.within (omega (arith, less, high)) p.some).later (omega (arith, le))

          none : (l : ℕ) → l < lanes → net.stage (net.lane k) + 1 + (net.stage p.lane - net.stage (net.lane k)) ≤ net.stage l → walks l ≡ []
          none l lt le =
              let high = p.later in
              p.none l (⊎_elim (λ less. less) (λ ge. let up = has.rising l p.lane ge p.within in absurd (omega (arith, up, le, high))) (cases_lt p.lane l)) lt (omega (arith, le, high))

  pub to_stages_ended : AreEnded net lanes k walks → (g : GoesByStages net lanes k (joined lanes walks)) × IsBehindAll net lanes k g.following
  unfolding by_stages
  to_stages_ended ends = (by_stages (net.stage (lanes - 1) + 1) (λ lt. (ends (net.lane k) (has.has_lane k)).own refl) (through (net.stage (lanes - 1) + 1) (net.stage (net.lane k) + 1) (omega arith) (λ l lt le less. (ends l lt).later (omega (arith, le))) none), behind)
    where
      top : (l : ℕ) → l < lanes → net.stage l ≤ net.stage (lanes - 1)
      top l lt = has.rising l (lanes - 1) (omega (arith, lt)) (omega (arith, lt))

      none : (l : ℕ) → l < lanes → net.stage (net.lane k) + 1 + (net.stage (lanes - 1) + 1) ≤ net.stage l → walks l ≡ []
      none l lt le = let t = top l lt in absurd (omega (arith, t, le))

      behind : IsBehindAll net lanes k (net.stage (lanes - 1) + 1)
      behind l lt = let t = top l lt in omega (arith, t)
