-- What the program answers: a status and bytes, for words and an input.
use Rattle.std.specs.Prelude.{◌≡◌, ℕ, ◌<◌, ◌≤◌, codes, List, [], length}
use Rattle.rcv_input.specs.declared.refused.Refused as refusals
use Rattle.rcv_input.specs.Input.{IsTaken}
use Rattle.rcv_input.specs.Refusals.{IsFirstRefusal}
use Rattle.rcv_input.specs.Line.{refusal_line}
use Rattle.rcv_printer.specs.CanonicalText.{canonical}
use Rattle.rcv_session.specs.Session.{SessionView}
use Rattle.rcv_top.specs.declared.status.Status.{Status}
use Rattle.rcv_top.specs.declared.status.Status.TheVariants.{Completed, Usage, Refused, Limited, ReadFault, WriteFault, Memory, TooLong, Wrong}
use Rattle.rcv_words.specs.Commands.{CommandView, Run, RunMany, Check, Project, Table, Gen, Replay, Line, IsCommand, IsNoCommand}
use Rattle.rcv_top.specs.Commands.{AskForSource, TakesWhole, text_for}
use Rattle.rcv_top.specs.Generating.{IsSummaryRun}
use Rattle.rcv_top.specs.Projection.{IsProjection}
use Rattle.rcv_top.specs.Recovering.{IsTableText}
use Rattle.rcv_top.specs.Replaying.{IsReplayAnswer}
use Rattle.rcv_top.specs.Lining.{IsLineRun}
use Rattle.rcv_top.specs.Running.{IsSessionRun}
use Rattle.rcv_top.specs.Many.{IsRunOfMany}

-- The number of a status, with which the process ends.
abbrev pub number_of : Status → ℕ
number_of Completed = 0
number_of Usage = 1
number_of Refused = 2
number_of Limited = 3
number_of ReadFault = 4
number_of WriteFault = 5
number_of Memory = 6
number_of TooLong = 7
number_of Wrong = 8

-- How many bytes an input may have.
abbrev pub most_bytes : ℕ
most_bytes = 1048576

-- What is written if the words are no command.
abbrev pub usage_line : List ℕ
usage_line = codes "usage: rcv run|check|project|table|gen|replay|line [--workers N] [--json] [--sessions K] [--role R] [--number N]\n"

-- The words are this command, and the text that it works on isn't too long.
pub record IsAsked (words : List (List ℕ)) (command : CommandView) (input : List ℕ) : Type 0 where
  pub words_are : IsCommand words command
  pub short : length (text_for command input) ≤ most_bytes

-- What a command makes of a session: the journal that so many workers make, with how that ends; the journals of several sessions, whatever
-- the workers; the canonical text of its protocol; what the role of a name does; the recovery table; the summary of a generated session; or
-- the stable line at the end of the journal of one thread. `replay` makes nothing of it alone.
abbrev pub Makes : SessionView → CommandView → Status → List ℕ → Type 0
Makes session (Run workers json) status bytes = IsSessionRun workers json session status bytes
Makes session (RunMany sessions workers json) status bytes = IsRunOfMany sessions json session status bytes
Makes session Check status bytes = (status ≡ Completed) × (bytes ≡ canonical session.protocol)
Makes session (Project name) status bytes = IsProjection session.protocol name status bytes
Makes session Table status bytes = (status ≡ Completed) × IsTableText session.protocol bytes
Makes session (Gen number) status bytes = IsSummaryRun number session status bytes
Makes session Line status bytes = IsLineRun session status bytes
Makes session Replay status bytes = ⊥

-- What a command answers to the text that it works on: the line of the first refusal, or what it makes of the session. `replay` answers
-- what is said of the journal after the bundle.
pub data IsAnswer (command : CommandView) (text : List ℕ) : Status → List ℕ → Type 0 where
  refused :
      TakesWhole command → (refusal : refusals.Refused) → IsFirstRefusal text refusal
      → IsAnswer command text Refused (refusal_line refusal)
  made :
      {status : Status} {bytes : List ℕ} (session : SessionView) → IsTaken text session
      → Makes session command status bytes → IsAnswer command text status bytes
  replayed :
      {status : Status} {bytes : List ℕ} → command ≡ Replay → IsReplayAnswer text status bytes
      → IsAnswer command text status bytes

-- The answer to these words and to this input, which the source gave: no command; too long; or what the command answers.
pub data IsOutcome (words : List (List ℕ)) (input : List ℕ) : Status → List ℕ → Type 0 where
  usage : IsNoCommand words → IsOutcome words input Usage usage_line
  too_long : AskForSource words → most_bytes < length input → IsOutcome words input TooLong []
  answered :
      {status : Status} {bytes : List ℕ} (command : CommandView) → IsAsked words command input
      → IsAnswer command (text_for command input) status bytes → IsOutcome words input status bytes
