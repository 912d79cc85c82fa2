-- The states of a role's machine: places at which the role does the same are one state, and no others.
use Rattle.std.specs.Prelude.{◌≡◌, ◌≢◌, ◌↔◌, ◌⊎◌, ℕ, ◌+◌, ◌==◌, ◌&&◌, Bool, true, false, if◌then◌else◌, List, [], ◌∷◌, ◌++◌}
use Rattle.std.specs.List.{AllByRecursion}
use Rattle.std.specs.Str.{bytes_eq}
use Rattle.rcv_model.specs.Net.{Net, IsIn}
use Rattle.rcv_model.specs.Next.{IsPlaceOf}
use Rattle.rcv_project.specs.Act.{ActView, Sending, Receiving, Ended, AreInText, IsActAt}
use Rattle.rcv_project.specs.LocalText.{places_to}

-- What the role does in a state, and the places that are one in it.
pub record StateView : Type 0 where
  pub act : ActView
  pub places : List ℕ

-- The points that can come next.
abbrev pub next_in : ActView → List ℕ
next_in (Sending points) = points
next_in (Receiving from points) = points
next_in Ended = []

-- How often a place stands among these, and how often in these states.
abbrev pub times : ℕ → List ℕ → ℕ
times k [] = 0
times k (place ∷ places) = (if place == k then 1 else 0) + times k places

abbrev pub times_in : ℕ → List StateView → ℕ
times_in k [] = 0
times_in k (state ∷ states) = times k state.places + times_in k states

-- The places of the role as far as point n are the places of these states: each stands in one state, once.
abbrev pub AreStatesTo : Net → ℕ → ℕ → List StateView → Type 0
AreStatesTo net r n states = (k : ℕ) → times_in k states ≡ times k (places_to net r n)

-- The state has places, and says what the role does at each of them.
pub record IsState (net : Net) (r : ℕ) (state : StateView) : Type 0 where
  pub some : state.places ≢ []
  pub acts : (k : ℕ) → IsIn k state.places → IsActAt net r k state.act

-- The role does the same at both places: it sends the same next points, or receives the same ones from the same role, or
-- its part is at its end.
abbrev pub DoesTheSame : Net → ℕ → ℕ → ℕ → Type 0
DoesTheSame net r k l = (act : ActView) × IsActAt net r k act × IsActAt net r l act

-- Both places stand in one of these states.
abbrev pub StandTogether : List StateView → ℕ → ℕ → Type 0
StandTogether [] k l = ⊥
StandTogether (state ∷ states) k l = (IsIn k state.places × IsIn l state.places) ⊎ StandTogether states k l

-- The states of the machine of role r. Each place of the role stands in one of them, once. Two places stand in one state exactly if the
-- role does the same at both.
pub record AreStatesOf (net : Net) (r : ℕ) (states : List StateView) : Type 0 where
  pub each_once : AreStatesTo net r net.count states
  pub each : AllByRecursion (IsState net r) states
  pub together : (k l : ℕ) → IsPlaceOf net r k → IsPlaceOf net r l → StandTogether states k l ↔ DoesTheSame net r k l

-- While they are made: the acts are the same, whether one of these states has the act, and no two states have one act.
abbrev pub same_act : ActView → ActView → Bool
same_act (Sending a) (Sending b) = bytes_eq a b
same_act (Sending a) (Receiving from b) = false
same_act (Sending a) Ended = false
same_act (Receiving from a) (Sending b) = false
same_act (Receiving from a) (Receiving other b) = from == other && bytes_eq a b
same_act (Receiving from a) Ended = false
same_act Ended (Sending b) = false
same_act Ended (Receiving from b) = false
same_act Ended Ended = true

abbrev pub HasAct : ActView → List StateView → Type 0
HasAct act [] = ⊥
HasAct act (state ∷ states) = (state.act ≡ act) ⊎ HasAct act states

abbrev pub AreDifferent : List StateView → Type 0
AreDifferent [] = Unit {0}
AreDifferent (state ∷ states) = (HasAct state.act states → ⊥) × AreDifferent states

-- A state of one place, and a state with one place more.
abbrev pub alone : ActView → ℕ → StateView
alone act place = record { act = act; places = place ∷ [] }

abbrev pub grown : StateView → ℕ → StateView
grown state place = record { act = state.act; places = state.places ++ place ∷ [] }

-- The states with one place more: in the first state with its act, or in a state of its own.
abbrev pub with_place : ActView → ℕ → List StateView → List StateView
with_place act place [] = alone act place ∷ []
with_place act place (state ∷ states) =
    if same_act state.act act then grown state place ∷ states else state ∷ with_place act place states

-- The states as far as point n, with next points of the text alone.
pub record AreMadeTo (net : Net) (r n : ℕ) (states : List StateView) : Type 0 where
  pub each_once : AreStatesTo net r n states
  pub each : AllByRecursion (IsState net r) states
  pub different : AreDifferent states
  pub in_text : AllByRecursion (λ (state : StateView). AreInText net (next_in state.act)) states
