-- A walk told stage by stage is one in text order.
use Rattle.std.proofs.Common.{◌≡◌, ℕ, zero, suc, ◌+◌, ◌<◌, ◌≤◌, List, [], ◌++◌, refl, sym, ◌∙◌, ap, subst, ⊎_elim, arith}
use Rattle.std.specs.Prelude.{◌↔◌}
use Rattle.std.proofs.lemmas.Bool.{cases_eq, cases_lt}
use Rattle.rcv_model.specs.Net.{Net, IsLaneWalk, IsLaneEnded}
use Rattle.rcv_parallel.specs.TextOrder.{HasLanesInOrder, IsWalkFromStart, IsEndedFromStart, IsEndedIn, AreLaneWalks, joined, IsInTextOrder, AreEnded}
use Rattle.rcv_parallel.specs.ByStages.{AreStageWalks, GoesByStages, IsBehindAll}
use Rattle.rcv_parallel.proofs.Splitting.{joined_none, SplitAt, split_at, here_or, or_here, or_else, only, only_here, only_else, joined_only}
use Rattle.rcv_parallel.proofs.ToStages.{to_stages, to_stages_ended}

-- what n stages from stage s on have in each lane
record HaveLanes (net : Net) (lanes n s : ℕ) (w : List ℕ) : Type 0 where
  walks : ℕ → List ℕ
  each : (l : ℕ) → l < lanes → s ≤ net.stage l → IsWalkFromStart net l (walks l)
  earlier : (l : ℕ) → l < lanes → net.stage l < s → walks l ≡ []
  later : (l : ℕ) → l < lanes → s + n ≤ net.stage l → walks l ≡ []
  ended : (l : ℕ) → l < lanes → s ≤ net.stage l → net.stage l + 1 < s + n → IsEndedFromStart net l (walks l)
  whole : joined lanes walks ≡ w

have_lanes : (net : Net) (roles lanes n s : ℕ) (w : List ℕ) → HasLanesInOrder net roles lanes → AreStageWalks net lanes n s w → HaveLanes net lanes n s w
have_lanes net roles lanes zero s w has e = record {
  walks = λ l. [];
  each = λ l lt le. tt;
  earlier = λ l lt less. refl;
  later = λ l lt le. refl;
  ended = λ l lt le less. absurd (omega (arith, le, less));
  whole = joined_none lanes (λ l. []) (λ l lt. refl) ∙ sym e;
}
have_lanes net roles lanes (suc n) s w has g = go (have_lanes net roles lanes n (s + 1) g.rest has g.behind)
  where
    go : HaveLanes net lanes n (s + 1) g.rest → HaveLanes net lanes (suc n) s w
    go b = record {
      walks = both;
      each = λ l lt le. ⊎_elim (λ e. subst (IsWalkFromStart net l) (sym (here l e)) (g.walk.each l lt e)) (λ m. subst (IsWalkFromStart net l) (sym (other l m)) (b.each l lt (omega (arith, le, m)))) (cases_eq (net.stage l) s);
      earlier = λ l lt less. other l (λ e. omega (arith, e, less)) ∙ b.earlier l lt (omega (arith, less));
      later = λ l lt le. other l (λ e. omega (arith, e, le)) ∙ b.later l lt (omega (arith, le));
      ended = λ l lt le less. ⊎_elim (λ e. subst (IsEndedFromStart net l) (sym (here l e)) (g.ended (omega (arith, e, less)) l lt e)) (λ m. subst (IsEndedFromStart net l) (sym (other l m)) (b.ended l lt (omega (arith, le, m)) (omega (arith, less)))) (cases_eq (net.stage l) s);
      whole = split_at net roles lanes s both g.walk.walks b.walks has split lanes (omega arith) ∙ ap (λ u. u ++ joined lanes b.walks) g.walk.whole ∙ ap (λ u. g.front ++ u) b.whole ∙ g.whole;
    }
      where
        both : ℕ → List ℕ
        both l = here_or (net.stage l) s (g.walk.walks l) (b.walks l)

        here : (l : ℕ) → net.stage l ≡ s → here_or (net.stage l) s (g.walk.walks l) (b.walks l) ≡ g.walk.walks l
        here l e = or_here (net.stage l) s (g.walk.walks l) (b.walks l) e

        other : (l : ℕ) → (net.stage l ≡ s → ⊥) → here_or (net.stage l) s (g.walk.walks l) (b.walks l) ≡ b.walks l
        other l m = or_else (net.stage l) s (g.walk.walks l) (b.walks l) m

        split : SplitAt net lanes s (λ l. here_or (net.stage l) s (g.walk.walks l) (b.walks l)) g.walk.walks b.walks
        split = record {
          upto = λ l lt le. (
            ⊎_elim (λ e. here l e) (λ m. other l m ∙ b.earlier l lt (omega (arith, le)) ∙ sym (g.walk.none l lt m)) (cases_eq (net.stage l) s),
            b.earlier l lt (omega (arith, le)),
          );
          behind = λ l lt less. (other l (λ e. omega (arith, e, less)), g.walk.none l lt (λ e. omega (arith, e, less)));
        }

module _ (net : Net) (roles lanes k : ℕ) (w : List ℕ) (has : HasLanesInOrder net roles lanes) (g : GoesByStages net lanes k w) where
  behind : HaveLanes net lanes g.following (net.stage (net.lane k) + 1) g.rest
  behind = have_lanes net roles lanes g.following (net.stage (net.lane k) + 1) g.rest has g.behind

  all : ℕ → List ℕ
  all l = here_or l (net.lane k) g.front (behind.walks l)

  at_own : (l : ℕ) → l ≡ net.lane k → all l ≡ g.front
  unfolding all
  at_own l e = or_here l (net.lane k) g.front (behind.walks l) e

  at_other : (l : ℕ) → (l ≡ net.lane k → ⊥) → all l ≡ behind.walks l
  unfolding all
  at_other l m = or_else l (net.lane k) g.front (behind.walks l) m

  not_own : (l : ℕ) → net.stage (net.lane k) < net.stage l → l ≡ net.lane k → ⊥
  not_own l less e = omega (arith, less, ap net.stage e)

  -- a lane with a point is of a stage that is gone through
  gone : (m : ℕ) → m < lanes → net.stage (net.lane k) < net.stage m → (all m ≡ [] → ⊥) → net.stage m < net.stage (net.lane k) + 1 + g.following
  gone m lt less some = ⊎_elim (λ up. up) (λ le. absurd (some (at_other m (not_own m less) ∙ behind.later m lt le))) (cases_lt (net.stage m) (net.stage (net.lane k) + 1 + g.following))

  in_turn : (l m : ℕ) → l < lanes → m < lanes → net.stage l < net.stage m → (all m ≡ [] → ⊥) → IsEndedIn net k l (all l)
  in_turn l m lt lt_m less some = record {
    own = λ e. subst (IsLaneEnded net k) (sym (at_own l e)) (let up = gone m lt_m (subst (λ n. net.stage n < net.stage m) e less) some in let f = ap net.stage e in g.ended (omega (arith, up, less, f)));
    later = λ high. subst (IsEndedFromStart net l) (sym (at_other l (not_own l high))) (let up = gone m lt_m (omega (arith, high, less)) some in behind.ended l lt (omega (arith, high)) (omega (arith, up, less)));
  }

  split : SplitAt net lanes (net.stage (net.lane k)) all (only (net.lane k) g.front) behind.walks
  split = record {
    upto = λ l lt le. (
      ⊎_elim
          (λ e. at_own l e ∙ sym (only_here (net.lane k) l g.front e))
          (λ m. at_other l m ∙ behind.earlier l lt (omega (arith, le)) ∙ sym (only_else (net.lane k) l g.front m))
          (cases_eq l (net.lane k)),
      behind.earlier l lt (omega (arith, le)),
    );
    behind = λ l lt less. (at_other l (not_own l less), only_else (net.lane k) l g.front (not_own l less));
  }

  lanes_are : AreLaneWalks net lanes k all
  lanes_are = record {
    own = subst (IsLaneWalk net k) (sym (at_own (net.lane k) refl)) g.walk;
    later = λ l lt less. subst (IsWalkFromStart net l) (sym (at_other l (not_own l less))) (behind.each l lt (omega (arith, less)));
    shut = λ l lt m le. at_other l m ∙ behind.earlier l lt (omega (arith, le));
    in_turn = in_turn;
  }

  whole_is : joined lanes all ≡ w
  whole_is =
      split_at net roles lanes (net.stage (net.lane k)) all (only (net.lane k) g.front) behind.walks has split lanes (omega arith)
      ∙ ap (λ u. u ++ joined lanes behind.walks) (joined_only lanes (net.lane k) g.front (has.has_lane k))
      ∙ ap (λ u. g.front ++ u) behind.whole
      ∙ g.whole

  of_stages : IsInTextOrder net lanes k w
  of_stages = record { walks = all; are = lanes_are; whole = whole_is }

  of_stages_ended : IsBehindAll net lanes k g.following → AreEnded net lanes k all
  of_stages_ended over l lt = record {
    own = λ e. subst (IsLaneEnded net k) (sym (at_own l e)) (let up = over l lt in let f = ap net.stage e in g.ended (omega (arith, up, f)));
    later = λ high. subst (IsEndedFromStart net l) (sym (at_other l (not_own l high))) (let up = over l lt in behind.ended l lt (omega (arith, high)) (omega (arith, up)));
  }

  pub back : IsBehindAll net lanes k g.following → (t : IsInTextOrder net lanes k w) × AreEnded net lanes k t.walks
  unfolding of_stages
  back over = (of_stages, of_stages_ended over)

  pub back_open : IsInTextOrder net lanes k w
  back_open = of_stages

pub stages_are : (net : Net) (roles lanes k : ℕ) (w : List ℕ) → HasLanesInOrder net roles lanes → (IsInTextOrder net lanes k w ↔ GoesByStages net lanes k w) × (((t : IsInTextOrder net lanes k w) × AreEnded net lanes k t.walks) ↔ ((g : GoesByStages net lanes k w) × IsBehindAll net lanes k g.following))
stages_are net roles lanes k w has = (
  ((λ t. subst (GoesByStages net lanes k) t.whole (to_stages net roles lanes k t.walks has t.are)), λ g. back_open net roles lanes k w has g),
  ((λ t. subst (λ v. (g : GoesByStages net lanes k v) × IsBehindAll net lanes k g.following) t.0.whole (to_stages_ended net roles lanes k t.0.walks has t.0.are t.1)), λ g. back net roles lanes k w has g.0 g.1),
)
