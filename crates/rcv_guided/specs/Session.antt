-- What contracts see of a guided session, and what it keeps.
use Rattle.std.specs.Prelude.{◌≡◌, ℕ, ◌+◌, ◌-◌, ◌<◌, ◌≤◌, All, Option, None, List, length, map, replicate, slice_index}
use Rattle.std.specs.List.{range_with_len}
use Rattle.rcv_tree.specs.declared.protocol.Protocol.{Protocol}
use Rattle.rcv_model.specs.Plan.{PlanLine, every_in}
use Rattle.rcv_told.specs.Told.{Remembered}
use Rattle.rcv_told.specs.Forgetting.{IsShorter}
use Rattle.rcv_ledger.specs.Logs.{log_at}
use Rattle.rcv_saves.specs.Counts.{above}
use Rattle.rcv_saves.specs.Saves.{SavesView, told_of}
use Rattle.rcv_saves.specs.Saves as saves
use Rattle.rcv_guide.specs.Numbers.{numbers_at}
use Rattle.rcv_guide.specs.Guide.{GuideView, net_for, roles_of, opened, IsMemory}
use Rattle.rcv_guide.specs.Line.{IsLine}
use Rattle.rcv_guided.specs.declared.saving.Saving.{Saving}
use Rattle.rcv_guided.specs.declared.saving.Saving.TheVariants.{ByPlan, Told}

-- The guide; the counts of events after which each role has saved its state; each role's incarnation, which is how often it
-- went back or was started anew; and, if a snapshot was told to this session, how much was told of the session that gave it.
pub record SessionView : Type 0 where
  pub guide : GuideView
  pub saves : SavesView
  pub incarnations : List ℕ
  pub restored : Option ℕ

abbrev pub roles_in : SessionView → ℕ
roles_in s = roles_of s.guide

-- How many events of a role are forgotten.
abbrev pub forgotten_of : SessionView → ℕ → ℕ
forgotten_of s r = (numbers_at s.guide.numbers r).forgotten

-- How many events a role keeps, forgotten ones too.
abbrev pub made_in : GuideView → ℕ → ℕ
made_in g r = (numbers_at g.numbers r).forgotten + (length (log_at g.logs r) - (numbers_at g.numbers r).seeds)

-- No role is told to have saved more than it did.
abbrev pub HaveMade : GuideView → SavesView → Type 0
HaveMade g saves = (r : ℕ) → r < roles_of g → All (λ count. count ≤ made_in g r) (told_of saves r)

abbrev pub incarnation_of : SessionView → ℕ → ℕ
incarnation_of s r = slice_index s.incarnations r

-- Before the first line. Each role saves after the multiples of its step (0: after none).
abbrev pub begun : Protocol → List PlanLine → ℕ → List ℕ → SessionView
begun protocol plan room steps =
    record {
      guide = opened protocol plan room;
      saves = saves.opened steps;
      incarnations = replicate (length protocol.roles) 0;
      restored = None;
    }

-- The step of a role: what the plan says if roles save by it; none if saves are told.
abbrev pub step_by : Saving → List PlanLine → ℕ → ℕ
step_by ByPlan plan r = every_in plan r
step_by Told plan r = 0

abbrev pub steps_by : Saving → List PlanLine → ℕ → List ℕ
steps_by saving plan roles = map (step_by saving plan) (range_with_len 0 roles)

-- What a session keeps: each role has a step, and an incarnation that is at most what was told; there is some room; and each
-- role has made what it is told to have saved.
pub record IsSession (s : SessionView) : Type 0 where
  pub steps : length s.saves.steps ≡ roles_in s
  pub incarnations : length s.incarnations ≡ roles_in s
  pub few : (r : ℕ) → incarnation_of s r ≤ s.guide.told
  pub room : 1 ≤ s.guide.room
  pub saved : HaveMade s.guide s.saves

-- The same session, and no more of it is forgotten than was stable: no line gets another answer. What was told of saves within
-- that is forgotten with it.
pub record IsSameSession (old new : SessionView) : Type 0 where
  pub protocol : new.guide.protocol ≡ old.guide.protocol
  pub plan : new.guide.plan ≡ old.guide.plan
  pub told : new.guide.told ≡ old.guide.told
  pub shorter : (m : Remembered) → IsMemory old.guide m → (short : Remembered) × IsMemory new.guide short × IsShorter (net_for old.guide) m short
  pub stable : (counts : List ℕ) → IsLine old.guide old.saves counts → (r : ℕ) → r < roles_in old
      → forgotten_of new r ≤ forgotten_of old r + slice_index counts r
  pub steps : new.saves.steps ≡ old.saves.steps
  pub saved : (r : ℕ) → r < roles_in old → told_of new.saves r ≡ above (forgotten_of new r) (told_of old.saves r)
  pub incarnations : new.incarnations ≡ old.incarnations
  pub restored : new.restored ≡ old.restored
