-- What a session answers to a line.
use Rattle.std.specs.Prelude.{◌≡◌, ℕ, ◌⊎◌, List, ◌++◌}
use Rattle.rcv_tree.specs.declared.entry.Entry.{Entry}
use Rattle.rcv_accept.specs.Accepted.{AcceptedView}
use Rattle.rcv_dialogue.specs.declared.line.Line.{Line}
use Rattle.rcv_dialogue.specs.declared.line.Line.TheVariants as line
use Rattle.rcv_dialogue.specs.declared.answer.Answer.{Answer}
use Rattle.rcv_dialogue.specs.Answers.{answer_text}
use Rattle.rcv_guided.specs.Session.{SessionView, IsSameSession}
use Rattle.rcv_guided.specs.Histories.{GoesOnBy}
use Rattle.rcv_guided.specs.Hearing.{IsUnchanged}
use Rattle.rcv_guided.specs.Events.{Sends, Receives, HasSaved, Crashes}
use Rattle.rcv_guided.specs.Failures.{Fails, Recovers}
use Rattle.rcv_guided.specs.Questions.{Asks}
use Rattle.rcv_guided.specs.Restoring.{Restores}

-- What comes of a line in a session: its answer, what it adds to the history, and the session after it.
abbrev pub Comes : SessionView → Line → Answer → List Entry → SessionView → Type 0
Comes s (line.Send told) said added after = Sends s told said added after
Comes s (line.Recv told) said added after = Receives s told said added after
Comes s (line.Save told) said added after = HasSaved s told said added after
Comes s (line.Fail failed) said added after = Fails s failed said added after
Comes s (line.Crash r) said added after = Crashes s r said added after
Comes s (line.Recover told) said added after = Recovers s told said added after
Comes s (line.Ask asked) said added after = Asks s asked said × IsUnchanged s added after
Comes s (line.Again told) said added after = Restores s told said added after

-- A line that is told to the first session is judged in the second: that is the first itself, or the same with some of what is
-- stable forgotten.
abbrev pub IsJudging : SessionView → SessionView → Type 0
IsJudging old s = (s ≡ old) ⊎ IsSameSession old s

-- What a session hears of a line.
pub record Hears (old : SessionView) (told : Line) (said : Answer) (added : List Entry) (after : SessionView) : Type 0 where
  pub judging : SessionView
  pub is : IsJudging old judging
  pub comes : Comes judging told said added after

-- The history goes on by what a line adds. A line of a snapshot is no part of a history: it restores a session that has one.
abbrev pub GoesOnBehind : Line → SessionView → List Entry → SessionView → Type 0
GoesOnBehind (line.Again told) old added new = Unit {0}
GoesOnBehind (line.Send told) old added new = GoesOnBy old added new
GoesOnBehind (line.Recv told) old added new = GoesOnBy old added new
GoesOnBehind (line.Save told) old added new = GoesOnBy old added new
GoesOnBehind (line.Fail failed) old added new = GoesOnBy old added new
GoesOnBehind (line.Crash r) old added new = GoesOnBy old added new
GoesOnBehind (line.Recover told) old added new = GoesOnBy old added new
GoesOnBehind (line.Ask asked) old added new = GoesOnBy old added new

-- This comes of a line that is judged in a session, and the session's history goes on by what the line adds.
pub record ComesBy (s : SessionView) (told : Line) (after : SessionView) (said : Answer) : Type 0 where
  pub added : List Entry
  pub comes : Comes s told said added after
  pub history : GoesOnBy s added after

-- This is the answer to the line. After it the session is the new one, and its history goes on by what the line adds.
pub record IsAnswer (old : SessionView) (told : Line) (after : SessionView) (said : Answer) : Type 0 where
  pub added : List Entry
  pub hears : Hears old told said added after
  pub history : GoesOnBehind told old added after

-- The text goes on with an answer for which this holds.
pub record Says (a : AcceptedView) (old new : List ℕ) (P : Answer → Type 0) : Type 0 where
  pub answer : Answer
  pub text : new ≡ old ++ answer_text a answer
  pub is : P answer
