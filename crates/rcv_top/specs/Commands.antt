-- What words ask for, and what a command works on.
use Rattle.std.specs.Prelude.{◌≤◌, ℕ, Bool, List, ⊤}
use Rattle.rcv_words.specs.Commands.{CommandView, Run, Gen, Replay, IsCommand}
use Rattle.rcv_gen.specs.Generated.{generated}

-- The words ask for more than one worker.
abbrev pub AskForSeveral : List (List ℕ) → Type 0
AskForSeveral words = (workers : ℕ) × (json : Bool) × (2 ≤ workers) × IsCommand words (Run workers json)

-- The command works on what the source gives: any but `gen`.
abbrev pub WorksOnSource : CommandView → Type 0
WorksOnSource (Gen number) = ⊥
WorksOnSource _ = ⊤

-- The words are such a command.
abbrev pub AskForSource : List (List ℕ) → Type 0
AskForSource words = (command : CommandView) × WorksOnSource command × IsCommand words command

-- The command takes its whole text as a bundle: any but `replay`, whose bundle ends where its journal begins.
abbrev pub TakesWhole : CommandView → Type 0
TakesWhole Replay = ⊥
TakesWhole _ = ⊤

-- The text that a command works on: `gen` on a generated one, any other on what the source gave.
abbrev pub text_for : CommandView → List ℕ → List ℕ
text_for (Gen number) given = generated number
text_for _ given = given
