-- For walks worked by hand: what a walk from the start leaves in lanes, looked at for the numbers below the count alone.
use Rattle.std.proofs.Common.{◌≡◌, ℕ, ◌<◌, List, [], ◌∷◌, ◌++◌, ⊎_elim}
use Rattle.std.proofs.lemmas.Bool.{cases_lt}
use Rattle.rcv_model.specs.Net.{Net, IsIn, opened, left_by, IsWalk}
use Rattle.rcv_model.proofs.Walks.{come_join}
use Rattle.rcv_model.proofs.Lanes.{left_laned, opened_laned}
use Rattle.rcv_parallel.specs.TextOrder.{HasLanesInOrder}
use Rattle.rcv_parallel.proofs.LaneWalks.{none_beyond}

module _ (net : Net) (roles lanes : ℕ) (has : HasLanesInOrder net roles lanes) where
  pub each_lane : (w : List ℕ) (s : ℕ) → ((l : ℕ) → l < lanes → net.stage l < s → left_by net (opened net 0) w l ≡ []) → (l : ℕ) → net.stage l < s → left_by net (opened net 0) w l ≡ []
  each_lane w s known l lt = ⊎_elim
      (λ less. known l less lt)
      (λ le. none_beyond net roles lanes (left_by net (opened net 0) w) l has (left_laned net roles (opened net 0) w has.proper (opened_laned net roles 0 has.proper)) le)
      (cases_lt l lanes)

  pub one_more : (w : List ℕ) (p : ℕ) → IsWalk net 0 w → IsIn p (left_by net (opened net 0) w (net.lane p)) → ((l : ℕ) → l < lanes → net.stage l < net.stage (net.lane p) → left_by net (opened net 0) w l ≡ []) → IsWalk net 0 (w ++ p ∷ [])
  one_more w p walk offered known = come_join net (opened net 0) w (p ∷ []) walk (record { offered = offered; ended = each_lane w (net.stage (net.lane p)) known }, tt)

-- two lists that are one begin with one point, and a list with a point isn't empty
pub same_first : (x y : ℕ) (u v : List ℕ) → x ∷ u ≡ y ∷ v → x ≡ y
same_first x y u v e = cc

pub some_point : (x : ℕ) (u : List ℕ) → x ∷ u ≡ [] → ⊥
some_point x u e = cc
