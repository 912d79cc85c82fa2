-- What the refusals of this crate say.
use Rattle.std.specs.Prelude.{◌≡◌, ℕ, ◌<◌, Option, Some, None, List, slice_get}
use Rattle.rcv_tree.specs.declared.module.Module.{Module}
use Rattle.rcv_tree.specs.declared.refusal.Refusal.{Refusal}
use Rattle.rcv_tree.specs.declared.refusal.Refusal.TheVariants as refusals
use Rattle.rcv_tree.specs.declared.refusal.TextError.{TextError}
use Rattle.rcv_tree.specs.declared.refusal.TextError.TheVariants.{Refused, Memory}
use Rattle.rcv_module.specs.declared.fault.Fault.{Fault}
use Rattle.rcv_module.specs.Answers.{IsRefused}
use Rattle.rcv_module.specs.Parts.{Part, Site}
use Rattle.rcv_module.specs.Refusing.{code_of, HoldsAt, IsFirstCall, AreCallable}

-- For a call: the least code of the table that holds there, if one does.
abbrev pub IsLeastFault : List Part → Site → Option Fault → Type 0
IsLeastFault parts s None = (g : Fault) → HoldsAt parts g s → ⊥
IsLeastFault parts s (Some f) = HoldsAt parts f s × ((g : Fault) → code_of g < code_of f → HoldsAt parts g s → ⊥)

-- For all calls: the number of the first one at which a code holds, with the least one.
abbrev pub IsFirstFault : List Part → Option (ℕ × Fault) → Type 0
IsFirstFault parts None = AreCallable parts
IsFirstFault parts (Some r) = IsFirstCall parts r.1 r.0

-- The refusal of a call, on its line, for this reason; or memory runs out.
pub record IsCallRefusal (lines : List ℕ) (r : Refusal) (Why : Fault → ℕ → Type 0) : Type 0 where
  pub fault : Fault
  pub number : ℕ
  pub line : ℕ
  pub why : Why fault number
  pub at_line : slice_get lines number ≡ Some line
  pub said : r ≡ refusals.Text (code_of fault) line

abbrev pub IsAtCall : List ℕ → (Fault → ℕ → Type 0) → TextError → Type 0
IsAtCall lines Why Memory = Unit {0}
IsAtCall lines Why (Refused r) = IsCallRefusal lines r Why

-- The module is refused so, or memory runs out.
abbrev pub FailsBy : Module → TextError → Type 0
FailsBy m Memory = Unit {0}
FailsBy m (Refused r) = IsRefused m r
