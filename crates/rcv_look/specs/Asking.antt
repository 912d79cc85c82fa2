-- What words ask for: how much a command takes, and whether it reads the source.
use Rattle.std.specs.Prelude.{ℕ, List, ⊤}
use Rattle.rcv_look.specs.Commands.{CommandView, DrawJournal, DrawSession, DrawTold, ReplayJournal, Explain, IsCommand}

-- How many bytes a bundle may have, and a bundle with a journal after it.
abbrev pub most_of_bundle : ℕ
most_of_bundle = 1048576

abbrev pub most_with_journal : ℕ
most_with_journal = 134217728

-- How many bytes the input of a command may have.
abbrev pub most_for : CommandView → ℕ
most_for DrawJournal = most_with_journal
most_for (DrawSession number) = most_with_journal
most_for DrawTold = most_with_journal
most_for ReplayJournal = most_with_journal
most_for _ = most_of_bundle

-- The command works on what the source gives: any but `explain`.
abbrev pub ReadsSource : CommandView → Type 0
ReadsSource (Explain code) = ⊥
ReadsSource _ = ⊤

-- The words are this command, which reads the source.
pub record IsAskedOfSource (words : List (List ℕ)) (command : CommandView) : Type 0 where
  pub words_are : IsCommand words command
  pub reads : ReadsSource command

-- The words are such a command.
abbrev pub AskForSource : List (List ℕ) → Type 0
AskForSource words = (command : CommandView) × IsAskedOfSource words command
