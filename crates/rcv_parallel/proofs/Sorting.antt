-- A walk, sorted by lanes, is a walk in text order; and a walk in text order is sorted.
use Rattle.std.proofs.Common.{◌≡◌, ℕ, ◌<◌, List, [], ◌∷◌, refl, sym, ◌∙◌, subst, ◌⊎◌, inl, inr, ⊎_elim}
use Rattle.std.specs.Prelude.{◌↔◌}
use Rattle.std.proofs.lemmas.Bool.{cases_eq, cases_lt}
use Rattle.rcv_model.specs.Net.{Net, opened, moved, ComeFrom, left_by, IsWalk, IsEnded}
use Rattle.rcv_model.proofs.Walks.{Ahead}
use Rattle.rcv_model.proofs.Lanes.{ended_stays, left_laned, opened_laned}
use Rattle.rcv_parallel.specs.TextOrder.{HasLanesInOrder, AreLaneWalks, joined, IsInTextOrder, AreEnded, in_lane, by_lanes}
use Rattle.rcv_parallel.proofs.InLane.{lane_no, AllIn, joined_same, joined_lane}
use Rattle.rcv_parallel.proofs.LaneWalks.{GoesInLane, goes_in_lane, all_in, none_beyond, opened_way, ended_way, way_ended, lane_walks}
use Rattle.rcv_parallel.proofs.Joining.{order_walk}

-- a walk with a point of a lane leaves nothing in lanes of earlier stages
ended_before : (net : Net) (ahead : Ahead) (l m : ℕ) (w : List ℕ) → ComeFrom net ahead w → net.stage l < net.stage m → (in_lane net w m ≡ [] → ⊥) → left_by net ahead w l ≡ []
ended_before net ahead l m [] c lt some = absurd (some refl)
ended_before net ahead l m (x ∷ w) c lt some = go (cases_eq (net.lane x) m) (λ s. ended_before net (moved net ahead x) l m w c.1 lt s)
  where
    go : (net.lane x ≡ m) ⊎ (net.lane x ≡ m → ⊥) → ((in_lane net w m ≡ [] → ⊥) → left_by net (moved net ahead x) w l ≡ []) → left_by net ahead (x ∷ w) l ≡ []
    go (inl e) ih = ended_stays net ahead (x ∷ w) l c (c.0.ended l (subst (λ n. net.stage l < net.stage n) (sym e) lt))
    go (inr n) ih = ih (λ e. some (lane_no net m x w n ∙ e))

module _ (net : Net) (roles lanes k : ℕ) (w : List ℕ) (has : HasLanesInOrder net roles lanes) (walk : IsWalk net k w) where
  goes : (l : ℕ) → GoesInLane net (opened net k) l w
  goes l = goes_in_lane net (opened net k) l w walk

  walks_are : AreLaneWalks net lanes k (in_lane net w)
  walks_are = lane_walks net lanes k (in_lane net w) (λ l. (goes l).from) (λ l m lt some. sym (goes l).left ∙ ended_before net (opened net k) l m w walk lt some)

  pub sorted : IsInTextOrder net lanes k (by_lanes net lanes w)
  sorted = record { walks = in_lane net w; are = walks_are; whole = refl }

  sorted_ended : AreEnded net lanes k (in_lane net w) → IsEnded net k w
  sorted_ended ends l = ⊎_elim
      (λ lt. (goes l).left ∙ ended_way net lanes k l (in_lane net w) walks_are lt (ends l lt))
      (λ le. none_beyond net roles lanes (left_by net (opened net k) w) l has (left_laned net roles (opened net k) w has.proper (opened_laned net roles k has.proper)) le)
      (cases_lt l lanes)

  ended_sorted : IsEnded net k w → AreEnded net lanes k (in_lane net w)
  ended_sorted end l lt = way_ended net k l (in_lane net w l) (sym (goes l).left ∙ end l)

  pub walk_sorts : (t : IsInTextOrder net lanes k (by_lanes net lanes w)) × (AreEnded net lanes k t.walks ↔ IsEnded net k w)
  unfolding sorted
  walk_sorts = (sorted, (sorted_ended, ended_sorted))

-- a walk in text order is sorted already
pub order_sorted : (net : Net) (roles lanes k : ℕ) (w : List ℕ) → HasLanesInOrder net roles lanes → IsInTextOrder net lanes k w → by_lanes net lanes w ≡ w
order_sorted net roles lanes k w has t = subst (λ v. by_lanes net lanes v ≡ v) t.whole (joined_same lanes (in_lane net (joined lanes t.walks)) t.walks (λ l lt. joined_lane net t.walks lanes l all lt))
  where
    all : (l : ℕ) → l < lanes → AllIn net l (t.walks l)
    all l lt = all_in net roles l (opened net k l) (t.walks l) has.proper (λ x i. (opened_laned net roles k has.proper).lane l x i) (opened_way net lanes k l t.walks t.are lt)

pub order_is_sorted : (net : Net) (roles lanes k : ℕ) (w : List ℕ) → HasLanesInOrder net roles lanes → IsInTextOrder net lanes k w ↔ (IsWalk net k w × (by_lanes net lanes w ≡ w))
order_is_sorted net roles lanes k w has = (
  (λ t. ((order_walk net roles lanes k w has t).0, order_sorted net roles lanes k w has t)),
  λ s. subst (IsInTextOrder net lanes k) s.1 (sorted net roles lanes k w has s.0),
)
