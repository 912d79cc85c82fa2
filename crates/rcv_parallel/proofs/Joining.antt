-- Lane walks, joined by the lanes' numbers, are a walk.
use Rattle.std.proofs.Common.{◌≡◌, ℕ, zero, suc, ◌<◌, ◌≤◌, List, [], ◌∷◌, refl, sym, ◌∙◌, ap, subst, ⊎_elim, arith}
use Rattle.std.specs.Prelude.{◌↔◌}
use Rattle.std.proofs.lemmas.Bool.{cases_eq, cases_lt}
use Rattle.rcv_model.specs.Net.{Net, IsIn, opened, ComeFrom, left_by, IsWalk, IsEnded}
use Rattle.rcv_model.specs.Next.{IsProper}
use Rattle.rcv_model.proofs.Walks.{Ahead, come_join, left_join}
use Rattle.rcv_model.proofs.Lanes.{opened_laned}
use Rattle.rcv_model.proofs.Completing.{ComesInLane, comes_in_lane}
use Rattle.rcv_model.proofs.Parted.{IsFrom, left_from}
use Rattle.rcv_parallel.specs.TextOrder.{HasLanesInOrder, AreLaneWalks, joined, IsInTextOrder, AreEnded}
use Rattle.rcv_parallel.proofs.LaneWalks.{none_beyond, opened_way, ended_way, way_ended}

-- a lane is walked through, and all others stay
record AddsLane (net : Net) (ahead : Ahead) (l : ℕ) (u : List ℕ) : Type 0 where
  walk : ComeFrom net ahead u
  here' : left_by net ahead u l ≡ left_from net (ahead l) u
  else' : (m : ℕ) → (m ≡ l → ⊥) → left_by net ahead u m ≡ ahead m

adds_lane : (net : Net) (roles : ℕ) (ahead : Ahead) (l : ℕ) (u : List ℕ) → IsProper net roles → ((x : ℕ) → IsIn x (ahead l) → net.lane x ≡ l) → ((u ≡ [] → ⊥) → (m : ℕ) → net.stage m < net.stage l → ahead m ≡ []) → IsFrom net (ahead l) u → AddsLane net ahead l u
adds_lane net roles ahead l [] proper lane ended from = record { walk = tt; here' = refl; else' = λ m n. refl }
adds_lane net roles ahead l (x ∷ v) proper lane ended from = record { walk = comes.walk; here' = ap (left_by net ahead (x ∷ v)) (sym same) ∙ comes.here'; else' = λ m n. comes.else' m (λ e. n (e ∙ same)) }
  where
    same : net.lane x ≡ l
    same = lane x from.0

    some : x ∷ v ≡ [] → ⊥
    some e = cc

    comes : ComesInLane net ahead x v
    comes = comes_in_lane net roles ahead x v proper (record { offered = subst (λ m. IsIn x (ahead m)) (sym same) from.0; ended = λ m lt. ended some m (subst (λ n. net.stage m < net.stage n) same lt) }) from.1

-- the first n lanes are walked through, and all others stay
record Joins (net : Net) (k : ℕ) (walks : ℕ → List ℕ) (n : ℕ) : Type 0 where
  walk : IsWalk net k (joined n walks)
  before : (l : ℕ) → l < n → left_by net (opened net k) (joined n walks) l ≡ left_from net (opened net k l) (walks l)
  behind : (l : ℕ) → n ≤ l → left_by net (opened net k) (joined n walks) l ≡ opened net k l

module _ (net : Net) (roles lanes k : ℕ) (walks : ℕ → List ℕ) (has : HasLanesInOrder net roles lanes) (are : AreLaneWalks net lanes k walks) where
  one_more : (n : ℕ) → suc n ≤ lanes → Joins net k walks n → Joins net k walks (suc n)
  one_more n le j = record {
    walk = come_join net (opened net k) (joined n walks) (walks n) j.walk adds.walk;
    before = λ l lt. ⊎_elim (λ e. at_n l e) (λ m. left l ∙ adds.else' l m ∙ j.before l (omega (arith, m))) (cases_eq l n);
    behind = λ l le'. left l ∙ adds.else' l (λ e. omega (arith, e, le')) ∙ j.behind l (omega (arith, le'));
  }
    where
      adds : AddsLane net (left_by net (opened net k) (joined n walks)) n (walks n)
      adds = adds_lane net roles (left_by net (opened net k) (joined n walks)) n (walks n) has.proper lane ended (subst (λ ps. IsFrom net ps (walks n)) (sym (j.behind n (omega arith))) (opened_way net lanes k n walks are le))
        where
          lane : (x : ℕ) → IsIn x (left_by net (opened net k) (joined n walks) n) → net.lane x ≡ n
          lane x i = (opened_laned net roles k has.proper).lane n x (subst (IsIn x) (j.behind n (omega arith)) i)

          ended : (walks n ≡ [] → ⊥) → (m : ℕ) → net.stage m < net.stage n → left_by net (opened net k) (joined n walks) m ≡ []
          ended some m lt = ⊎_elim
              (λ less. j.before m less ∙ ended_way net lanes k m walks are (omega (arith, less, le)) (are.in_turn m n (omega (arith, less, le)) le lt some))
              (λ ge. j.behind m ge ∙ ⊎_elim (λ known. absurd (let up = has.rising n m ge known in omega (arith, up, lt))) (λ far. none_beyond net roles lanes (opened net k) m has (opened_laned net roles k has.proper) far) (cases_lt m lanes))
              (cases_lt m n)

      left : (l : ℕ) → left_by net (opened net k) (joined (suc n) walks) l ≡ left_by net (left_by net (opened net k) (joined n walks)) (walks n) l
      left l = ap (λ f. f l) (left_join net (opened net k) (joined n walks) (walks n))

      at_n : (l : ℕ) → l ≡ n → left_by net (opened net k) (joined (suc n) walks) l ≡ left_from net (opened net k l) (walks l)
      at_n l e = subst (λ m. left_by net (opened net k) (joined (suc n) walks) m ≡ left_from net (opened net k m) (walks m)) (sym e) (left n ∙ adds.here' ∙ ap (λ ps. left_from net ps (walks n)) (j.behind n (omega arith)))

  joins : (n : ℕ) → n ≤ lanes → Joins net k walks n
  joins zero le = record { walk = tt; before = λ l lt. absurd (omega (arith, lt)); behind = λ l le'. refl }
  joins (suc n) le = one_more n le (joins n (omega arith))

  pub join_walk : IsWalk net k (joined lanes walks)
  join_walk = (joins lanes (omega arith)).walk

  pub join_ended : AreEnded net lanes k walks → IsEnded net k (joined lanes walks)
  join_ended ends l = ⊎_elim
      (λ lt. (joins lanes (omega arith)).before l lt ∙ ended_way net lanes k l walks are lt (ends l lt))
      (λ le. (joins lanes (omega arith)).behind l le ∙ none_beyond net roles lanes (opened net k) l has (opened_laned net roles k has.proper) le)
      (cases_lt l lanes)

  pub ended_join : IsEnded net k (joined lanes walks) → AreEnded net lanes k walks
  ended_join end l lt = way_ended net k l (walks l) (sym ((joins lanes (omega arith)).before l lt) ∙ end l)

-- each walk in text order is a walk, ended where it says so
pub order_walk : (net : Net) (roles lanes k : ℕ) (w : List ℕ) → HasLanesInOrder net roles lanes → (t : IsInTextOrder net lanes k w) → IsWalk net k w × (AreEnded net lanes k t.walks ↔ IsEnded net k w)
order_walk net roles lanes k w has t = (
  subst (IsWalk net k) t.whole (join_walk net roles lanes k t.walks has t.are),
  (
    (λ ends. subst (IsEnded net k) t.whole (join_ended net roles lanes k t.walks has t.are ends)),
    λ end. ended_join net roles lanes k t.walks has t.are (subst (IsEnded net k) (sym t.whole) end),
  ),
)
