-- Walks told stage by stage; and the law that they are those in text order.
use Rattle.std.specs.Prelude.{◌≡◌, ℕ, zero, suc, ◌+◌, ◌<◌, ◌↔◌, List, [], ◌++◌}
use Rattle.rcv_model.specs.Net.{Net, IsLaneWalk, IsLaneEnded}
use Rattle.rcv_parallel.specs.TextOrder.{HasLanesInOrder, IsWalkFromStart, IsEndedFromStart, joined, IsInTextOrder, AreEnded}

-- A stage walk: a walk from the start of each lane of the stage, joined by the lanes' numbers.
pub record IsStageWalk (net : Net) (lanes s : ℕ) (w : List ℕ) : Type 0 where
  pub walks : ℕ → List ℕ
  pub each : (l : ℕ) → l < lanes → net.stage l ≡ s → IsWalkFromStart net l (walks l)
  pub none : (l : ℕ) → l < lanes → (net.stage l ≡ s → ⊥) → walks l ≡ []
  pub whole : joined lanes walks ≡ w

-- It is ended if each of these is.
abbrev pub IsStageEnded : Net → ℕ → ℕ → (ℕ → List ℕ) → Type 0
IsStageEnded net lanes s walks = (l : ℕ) → l < lanes → net.stage l ≡ s → IsEndedFromStart net l (walks l)

-- A stage walk of stage s and something after it; the stage walk is ended if other stages follow.
pub record IsStageAnd (net : Net) (lanes s following : ℕ) (Rest : List ℕ → Type 0) (w : List ℕ) : Type 0 where
  pub front : List ℕ
  pub rest : List ℕ
  pub whole : front ++ rest ≡ w
  pub walk : IsStageWalk net lanes s front
  pub ended : 0 < following → IsStageEnded net lanes s walk.walks
  pub behind : Rest rest

-- The stage walks of n stages, one after another; stage s is the first of them, and each but the last is ended.
abbrev pub AreStageWalks : Net → ℕ → ℕ → ℕ → List ℕ → Type 0
AreStageWalks net lanes zero s w = w ≡ []
AreStageWalks net lanes (suc n) s w = IsStageAnd net lanes s n (λ v. AreStageWalks net lanes n (s + 1) v) w

-- A walk from place k by stages: a walk within the lane of k from there, or an ended one and the stage walks of some stages
-- after that of k. The start is the place of the first lane, which has its stage for itself.
pub record GoesByStages (net : Net) (lanes k : ℕ) (w : List ℕ) : Type 0 where
  pub front : List ℕ
  pub rest : List ℕ
  pub whole : front ++ rest ≡ w
  pub following : ℕ
  pub walk : IsLaneWalk net k front
  pub ended : 0 < following → IsLaneEnded net k front
  pub behind : AreStageWalks net lanes following (net.stage (net.lane k) + 1) rest

-- It is ended if it has come past all stages, to one that no lane has: then each of its lane walks is ended, and no stage
-- follows.
abbrev pub IsBehindAll : Net → ℕ → ℕ → ℕ → Type 0
IsBehindAll net lanes k following = (l : ℕ) → l < lanes → net.stage l < net.stage (net.lane k) + following

-- Walks in text order are those by stages; and ended ones are ended ones.
abbrev pub TextOrderGoesByStages : Type 0
TextOrderGoesByStages =
    (net : Net) (roles lanes k : ℕ) (w : List ℕ) → HasLanesInOrder net roles lanes
    → (IsInTextOrder net lanes k w ↔ GoesByStages net lanes k w)
    × (((t : IsInTextOrder net lanes k w) × AreEnded net lanes k t.walks)
    ↔ ((g : GoesByStages net lanes k w) × IsBehindAll net lanes k g.following))
