-- The whole history of a guide's session: what was told from its start on, though most of it may be forgotten.
use Rattle.std.specs.Prelude.{◌≡◌, ℕ, List, [], ◌∷◌, ◌++◌}
use Rattle.rcv_tree.specs.declared.entry.Entry.{Entry}
use Rattle.rcv_tree.specs.declared.protocol.Protocol.{Protocol}
use Rattle.rcv_model.specs.Plan.{PlanLine}
use Rattle.rcv_told.specs.Told.{Remembered, told, IsTold}
use Rattle.rcv_told.specs.Forgetting.{IsShorter}
use Rattle.rcv_guide.specs.Guide.{GuideView, net_for, terms_of, opened, IsMemory, IsAfter, HasForgotten}

-- These entries may be told one after another from the start on. What is remembered is a shorter memory of them, or all of
-- them.
pub record HasHistory (g : GuideView) (entries : List Entry) : Type 0 where
  pub may : IsTold (terms_of g) entries
  pub memory : Remembered
  pub is : IsMemory g memory
  pub shorter : IsShorter (net_for g) (told (terms_of g) entries) memory

-- A session begins with no history, and it goes on by what is told. Forgetting changes no history.
abbrev pub HistoriesBegin : Type 0
HistoriesBegin = (protocol : Protocol) (plan : List PlanLine) (room : ℕ) → HasHistory (opened protocol plan room) []

abbrev pub HistoriesGoOn : Type 0
HistoriesGoOn =
    (old new : GuideView) (history : List Entry) (e : Entry) → IsAfter old new e → terms_of new ≡ terms_of old
    → HasHistory old history → HasHistory new (history ++ e ∷ [])

abbrev pub HistoriesOutlastForgetting : Type 0
HistoriesOutlastForgetting =
    (old new : GuideView) (history : List Entry) (counts : List ℕ) (room : ℕ) → HasForgotten old new counts room
    → HasHistory old history → HasHistory new history
