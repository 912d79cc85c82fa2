-- What words ask for: one command or none, and whether it works on the source.
use Rattle.std.proofs.Common.{◌≡◌, ℕ, codes, List, [], ◌∷◌, refl, ◌∙◌, subst, ◌⊎◌, inl, inr}
use Rattle.clap.proofs.OnLiterals.{clap_on_literals}
use Rattle.rcv_words.specs.Commands.{CommandView, Run, RunMany, Check, Project, Table, Gen, Replay, Line, IsCommand, IsNoCommand, given}
use Rattle.rcv_words.proofs.OneCommand as said
use Rattle.rcv_top.specs.Commands.{AskForSource, WorksOnSource, text_for}

-- the words are one command at most
pub one_command : (words : List (List ℕ)) (c d : CommandView) → IsCommand words c → IsCommand words d → c ≡ d
one_command words c d x y = said.one_command (given words) c d x.1 x.2 y.1 y.2

-- the word `check` is one
pub check_command : IsCommand (codes "check" ∷ []) Check
unfolding clap_on_literals
check_command = (refl, (refl, record { workers = refl; json = refl; role = refl; number = refl; sessions = refl }), tt)

-- a command works on the source, or it is `gen`
pub source_or_gen : (c : CommandView) → WorksOnSource c ⊎ ((number : ℕ) × (c ≡ Gen number))
source_or_gen (Run n json) = inl tt
source_or_gen (RunMany k n json) = inl tt
source_or_gen Check = inl tt
source_or_gen (Project name) = inl tt
source_or_gen Table = inl tt
source_or_gen Replay = inl tt
source_or_gen Line = inl tt
source_or_gen (Gen n) = inr (n, refl)

-- what works on the source works on what this gave
pub text_given : (c : CommandView) (input : List ℕ) → WorksOnSource c → text_for c input ≡ input
text_given (Run n json) input works = refl
text_given (RunMany k n json) input works = refl
text_given Check input works = refl
text_given (Project name) input works = refl
text_given Table input works = refl
text_given Replay input works = refl
text_given Line input works = refl
text_given (Gen n) input works = absurd works

-- `gen` doesn't ask for the source
pub gen_asks : (words : List (List ℕ)) (c : CommandView) (n : ℕ) → IsCommand words c → c ≡ Gen n → AskForSource words → ⊥
gen_asks words c n is gen asks = subst WorksOnSource (one_command words asks.0 c asks.2 is ∙ gen) asks.1

pub none_asks : (words : List (List ℕ)) → IsNoCommand words → AskForSource words → ⊥
none_asks words none asks = none asks.0 asks.2
