-- How a dialogue begins: its words, its text, and the first line.
use Rattle.std.specs.Prelude.{◌≡◌, ℕ, codes, List, [], ◌∷◌, ◌++◌, flat_map, length, map}
use Rattle.std.specs.String.{string_bytes}
use Rattle.std.specs.declared.string.String.{String}
use Rattle.std.specs.declared.alloc.Global.{Global}
use Rattle.rcv_session.specs.Session as bundles
use Rattle.rcv_input.specs.Input.{IsTaken}
use Rattle.rcv_input.specs.Line.{refusal_line}
use Rattle.rcv_input.specs.Refusals.{IsFirstRefusal}
use Rattle.rcv_input.specs.declared.refused.Refused.{Refused as Refusal}
use Rattle.rcv_guided.specs.declared.saving.Saving.{Saving}
use Rattle.rcv_guided.specs.declared.saving.Saving.TheVariants.{ByPlan, Told}
use Rattle.rcv_guided.specs.Session.{SessionView, begun, steps_by}
use Rattle.rcv_talk.specs.declared.begin.BeginError.{BeginError}
use Rattle.rcv_talk.specs.declared.begin.BeginError.TheVariants as errors

-- Words as their bytes.
abbrev pub texts_of : List (String Global) → List (List ℕ)
texts_of words = map string_bytes words

-- What roles have saved, by the words: none, or the word `--told`.
abbrev pub AreWords : List (List ℕ) → Saving → Type 0
AreWords words ByPlan = words ≡ []
AreWords words Told = words ≡ codes "--told" ∷ []

-- They are others.
abbrev pub AreOtherWords : List (List ℕ) → Type 0
AreOtherWords words = (saving : Saving) → AreWords words saving → ⊥

-- There is room for so many events at first.
abbrev pub first_room : ℕ
first_room = 1024

-- The session before its first line, if the text is taken as this bundle. Its scripts say nothing here.
abbrev pub begun_of : Saving → bundles.SessionView → SessionView
begun_of saving b = begun b.protocol b.plan first_room (steps_by saving b.plan (length b.protocol.roles))

-- The session of a text.
pub record Begins (text : List ℕ) (saving : Saving) (s : SessionView) : Type 0 where
  pub bundle : bundles.SessionView
  pub taken : IsTaken text bundle
  pub is : s ≡ begun_of saving bundle

-- Or why there is none: the text's first refusal, which the line says; or no memory was left.
abbrev pub IsNoSession : List ℕ → BeginError → Type 0
IsNoSession text (errors.Refused line) = (refusal : Refusal) × IsFirstRefusal text refusal × (line.items ≡ refusal_line refusal)
IsNoSession text errors.Memory = Unit {0}

-- The first line: the number of this dialogue, and the roles.
abbrev pub spaced : List ℕ → List ℕ
spaced name = codes " " ++ name

abbrev pub ready_line : SessionView → List ℕ
ready_line s = codes "ready 1" ++ flat_map spaced s.guide.protocol.roles ++ codes "\n"

abbrev pub usage_line : List ℕ
usage_line = codes "usage: rcv-guide [--told]\n"

abbrev pub no_events_line : List ℕ
no_events_line = codes "refused 57 NoEvents\n"
