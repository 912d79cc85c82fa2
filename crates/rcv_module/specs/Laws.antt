-- What holds of modules.
use Rattle.std.specs.Prelude.{◌≡◌, ◌↔◌, ◌⊎◌, ℕ, Some, List, slice_get, [], ◌∷◌, length}
use Rattle.std.specs.List.{All}
use Rattle.rcv_tree.specs.Words.{IsWord}
use Rattle.rcv_tree.specs.declared.module.Module.{Module}
use Rattle.rcv_tree.specs.declared.protocol.Protocol.{Protocol}
use Rattle.rcv_tree.specs.declared.refusal.Refusal.{Refusal}
use Rattle.rcv_model.specs.Text.{Body}
use Rattle.rcv_model.specs.Form.{HasForm}
use Rattle.rcv_model.specs.Places.{SingleMessage, singles, IsFullText}
use Rattle.rcv_module.specs.Answers.{IsExpanded, IsRefused}
use Rattle.rcv_module.specs.Parts.{Part, Site, place, sites}
use Rattle.rcv_module.specs.declared.fault.Fault.{Fault}
use Rattle.rcv_module.specs.declared.origin.Called.{Called}
use Rattle.rcv_module.specs.declared.origin.Origin.{Origin}
use Rattle.rcv_module.specs.Expansion.{IsExpansion}
use Rattle.rcv_module.specs.Form.{AreFormed, HasModuleForm}
use Rattle.rcv_module.specs.Origins.{AreOrigins}
use Rattle.rcv_module.specs.Refusing.{AreCallable, IsFree, IsRefusedAt}
use Rattle.rcv_module.specs.Short.{AreShort}
use Rattle.rcv_module.specs.Walks.{IsWalkOfModule, IsWalkOfText}

-- Walks through a module give the messages that walks of its expansion give. That holds if a par stands only in the first protocol's own
-- block, as the form says, and no call comes back to the protocol that holds it.
abbrev pub ExpansionKeepsWalks : Type 0
ExpansionKeepsWalks =
    (parts : List Part) (body : Body) (ms : List SingleMessage) → AreFormed parts → AreCallable parts → IsExpansion parts body
    → IsWalkOfModule parts ms ↔ IsWalkOfText body ms

-- What isn't refused has no refusal.
abbrev pub FreeModulesAreNotRefused : Type 0
FreeModulesAreNotRefused = (parts : List Part) (f : Fault) (n : ℕ) → IsFree parts → IsRefusedAt parts f n → ⊥

-- If a module has the form and isn't refused, its expansion has the form that acceptance asks for.
abbrev pub ExpansionsHaveForm : Type 0
ExpansionsHaveForm =
    (parts : List Part) (main : Part) (body : Body) → AreFormed parts → IsFree parts → slice_get parts 0 ≡ Some main
    → IsExpansion parts body → HasForm body main.roles × IsFullText body × All (λ m. IsWord m.1.label) (singles body)

-- A module has at most one refusal, and at most one expansion.
abbrev pub RefusalsAreOne : Type 0
RefusalsAreOne =
    (parts : List Part) (f g : Fault) (n m : ℕ) → IsRefusedAt parts f n → IsRefusedAt parts g m → (f ≡ g) × (n ≡ m)

abbrev pub ExpansionsAreOne : Type 0
ExpansionsAreOne = (parts : List Part) (a b : Body) → IsExpansion parts a → IsExpansion parts b → a ≡ b

-- A module that has the form is expanded or refused, if its texts are short. (A list of statements has fewer than 2^63 of
-- them, and a block of an expansion may have more than the block of the text that it comes from, but fewer than 256 more.)
abbrev pub ModulesHaveAnswers : Type 0
ModulesHaveAnswers = (m : Module) → HasModuleForm m → AreShort m → ((p : Protocol) × IsExpanded m p) ⊎ ((r : Refusal) × IsRefused m r)

-- These calls lead from one protocol to another. The one protocol holds the first call. The protocol that a call names holds the next one,
-- and the last call names the other protocol.
abbrev pub IsChain : List Part → ℕ → List Called → ℕ → Type 0
IsChain parts holder [] to = to ≡ holder
IsChain parts holder (c ∷ cs) to =
    ((s : Site) × (slice_get (sites parts) c.number ≡ Some s) × (s.holder ≡ holder) × (place parts s.name ≡ Some c.protocol))
    × IsChain parts c.protocol cs to

-- This is where a message of the expansion comes from: the text there has it, with its label and sorts, and the calls lead
-- there from the first protocol.
pub record IsOriginOf (parts : List Part) (o : Origin) (m : SingleMessage) : Type 0 where
  pub part : Part
  pub is : slice_get parts o.protocol ≡ Some part
  pub number : ℕ
  pub own : SingleMessage
  pub has : slice_get (singles part.body) number ≡ Some (o.point, own)
  pub label : own.label ≡ m.label
  pub sorts : own.sorts ≡ m.sorts
  pub chain : IsChain parts 0 o.calls.items o.protocol

-- Each point of the expansion has its origin.
abbrev pub OriginsAreOfPoints : Type 0
OriginsAreOfPoints =
    (parts : List Part) (body : Body) (os : List Origin) → IsExpansion parts body → AreOrigins parts os
    → (length os ≡ length (singles body))
    × ((k : ℕ) (o : Origin) (m : ℕ × SingleMessage) → slice_get os k ≡ Some o → slice_get (singles body) k ≡ Some m
    → IsOriginOf parts o m.1)
