-- What a call of the program took from its source and wrote to its sink, for each status.
use Rattle.std.specs.Prelude.{◌≡◌, ◌≢◌, ◌⊎◌, ℕ, ◌<◌, ◌≤◌, List, [], ◌++◌, All, flat_map}
use Rattle.std.specs.declared.option.Option.{Option}
use Rattle.std.specs.Io.KnownBytes.{append_known, IsAtEnd}
use Rattle.rcv_tree.specs.declared.entry.Entry.{Entry}
use Rattle.rcv_io.specs.Causes.{Rose}
use Rattle.rcv_io.specs.Sink.{WroteBeginning}
use Rattle.rcv_input.specs.declared.refused.Refused.{Refused as Refusal}
use Rattle.rcv_input.specs.Line.{refusal_line}
use Rattle.rcv_input.specs.Refusals.{IsFirstRefusal}
use Rattle.rcv_guide.specs.History.{HasHistory}
use Rattle.rcv_pipe.specs.Feeds.{HasNoFeed, ended}
use Rattle.rcv_pipe.specs.Opening.{Opens, OpensNone, IsTooLong}
use Rattle.rcv_guided.specs.Session.{SessionView}
use Rattle.rcv_guided.specs.declared.saving.Saving.{Saving}
use Rattle.rcv_talk.specs.declared.status.Status.{Status}
use Rattle.rcv_talk.specs.declared.status.Status.TheVariants.{Done, Usage, Refused, ReadFault, WriteFault, Memory, TooLong, HalfLine}
use Rattle.rcv_talk.specs.Around.{Around, Takes, Writes}
use Rattle.rcv_talk.specs.Dialogue.{AreTold, NoneRestores, GoOn, EndsByLine}
use Rattle.rcv_talk.specs.Openings.{AreWords, AreOtherWords, Begins, ready_line, usage_line, no_events_line}

-- The number of a status.
abbrev pub number_of : Status → ℕ
number_of Done = 0
number_of Usage = 1
number_of Refused = 2
number_of ReadFault = 4
number_of WriteFault = 5
number_of Memory = 6
number_of TooLong = 7
number_of HalfLine = 9

-- A dialogue was held. A session begins with the text; after the text stand whole lines that the session is told, and some bytes
-- more. The call wrote its first line and its answers. What was told and taken is a history of that session, from its start on,
-- if no line of a snapshot was told. (Such a line restores another one's.)
pub record Dialogue (words : List (List ℕ)) (call : Around) : Type 0 where
  pub taken : List ℕ
  pub takes : Takes call taken
  pub text : List ℕ
  pub behind : List ℕ
  pub opens : Opens taken text behind
  pub saving : Saving
  pub words_are : AreWords words saving
  pub start : SessionView
  pub begins : Begins text saving start
  pub lines : List (List ℕ)
  pub whole : All HasNoFeed lines
  pub rest : List ℕ
  pub behind_is : behind ≡ flat_map ended lines ++ rest
  pub answers : List ℕ
  pub entries : List Entry
  pub last : SessionView
  pub told : AreTold start lines answers entries last
  pub history : NoneRestores start lines → HasHistory last.guide entries

-- All that it writes.
abbrev pub output_of : {words : List (List ℕ)} {call : Around} → Dialogue words call → List ℕ
output_of d = ready_line d.start ++ d.answers

-- No line ends it, and the source does: after a whole line, or within one.
pub record EndsBySource (s : SessionView) (lines : List (List ℕ)) (call : Around) : Type 0 where
  pub go_on : GoOn s lines
  pub over : IsAtEnd call.rest_after

-- The dialogue ended after a whole line; or within one, and that line isn't answered.
pub record IsDone (words : List (List ℕ)) (call : Around) : Type 0 where
  pub dialogue : Dialogue words call
  pub writes : Writes call (output_of dialogue)
  pub ends : EndsByLine dialogue.start dialogue.lines ⊎ (EndsBySource dialogue.start dialogue.lines call × (dialogue.rest ≡ []))

pub record EndsInLine (words : List (List ℕ)) (call : Around) : Type 0 where
  pub dialogue : Dialogue words call
  pub writes : Writes call (output_of dialogue)
  pub ends : EndsBySource dialogue.start dialogue.lines call
  pub half : dialogue.rest ≢ []
  pub one : HasNoFeed dialogue.rest

-- The words are others, and nothing was read.
pub record HasOtherWords (words : List (List ℕ)) (call : Around) : Type 0 where
  pub others : AreOtherWords words
  pub unread : call.rest_after ≡ call.rest_before
  pub none_given : call.given_after ≡ call.given_before

-- The source has no text, or that is refused.
pub record HasNoText (words : List (List ℕ)) (call : Around) : Type 0 where
  pub saving : Saving
  pub words_are : AreWords words saving
  pub taken : List ℕ
  pub takes : Takes call taken
  pub none : OpensNone taken
  pub over : IsAtEnd call.rest_after

pub record HasRefusedText (words : List (List ℕ)) (call : Around) (refusal : Refusal) : Type 0 where
  pub saving : Saving
  pub words_are : AreWords words saving
  pub taken : List ℕ
  pub takes : Takes call taken
  pub text : List ℕ
  pub behind : List ℕ
  pub opens : Opens taken text behind
  pub refused : IsFirstRefusal text refusal

-- What is written then.
abbrev pub IsRefusal : List (List ℕ) → Around → List ℕ → Type 0
IsRefusal words call bytes =
    (HasNoText words call × (bytes ≡ no_events_line))
    ⊎ ((refusal : Refusal) × HasRefusedText words call refusal × (bytes ≡ refusal_line refusal))

pub record IsRefused (words : List (List ℕ)) (call : Around) : Type 0 where
  pub bytes : List ℕ
  pub is : IsRefusal words call bytes
  pub writes : Writes call bytes

-- The source failed: before the text ended, and nothing was written; or after it, and all that was told is answered.
pub record FailsInText (words : List (List ℕ)) (call : Around) : Type 0 where
  pub saving : Saving
  pub words_are : AreWords words saving
  pub taken : List ℕ
  pub takes : Takes call taken
  pub none : OpensNone taken
  pub silent : call.written_after ≡ call.written_before

pub record FailsInDialogue (words : List (List ℕ)) (call : Around) : Type 0 where
  pub dialogue : Dialogue words call
  pub writes : Writes call (output_of dialogue)
  pub go_on : GoOn dialogue.start dialogue.lines
  pub half : HasNoFeed dialogue.rest

pub record FailsToRead (words : List (List ℕ)) (call : Around) : Type 0 where
  pub rose : Rose call.read_faults_before call.read_faults_after
  pub is : FailsInText words call ⊎ FailsInDialogue words call

-- The sink failed: a beginning of some output was written, not all of it.
abbrev pub IsOutput : List (List ℕ) → Around → List ℕ → Type 0
IsOutput words call bytes =
    (HasOtherWords words call × (bytes ≡ usage_line))
    ⊎ (IsRefusal words call bytes ⊎ ((d : Dialogue words call) × (bytes ≡ output_of d)))

pub record FailsToWrite (words : List (List ℕ)) (call : Around) : Type 0 where
  pub rose : Rose call.write_faults_before call.write_faults_after
  pub bytes : List ℕ
  pub is : IsOutput words call bytes
  pub writes : WroteBeginning call.written_before call.written_after bytes

-- No memory was left: for the text or the session, and nothing was written; or for an answer, and those before are written.
pub record WantsMemoryAtFirst (call : Around) : Type 0 where
  pub taken : List ℕ
  pub takes : Takes call taken
  pub silent : call.written_after ≡ call.written_before

pub record WantsMemoryLater (words : List (List ℕ)) (call : Around) : Type 0 where
  pub dialogue : Dialogue words call
  pub writes : Writes call (output_of dialogue)

abbrev pub WantsMemory : List (List ℕ) → Around → Type 0
WantsMemory words call = WantsMemoryAtFirst call ⊎ WantsMemoryLater words call

-- The text is too long, and nothing was written.
pub record TakesTooMuch (words : List (List ℕ)) (call : Around) : Type 0 where
  pub saving : Saving
  pub words_are : AreWords words saving
  pub taken : List ℕ
  pub takes : Takes call taken
  pub long : IsTooLong taken
  pub silent : call.written_after ≡ call.written_before

pub record IsUsage (words : List (List ℕ)) (call : Around) : Type 0 where
  pub other : HasOtherWords words call
  pub writes : Writes call usage_line

-- What each status says.
abbrev pub Says : List (List ℕ) → Around → Status → Type 0
Says words call Done = IsDone words call
Says words call Usage = IsUsage words call
Says words call Refused = IsRefused words call
Says words call ReadFault = FailsToRead words call
Says words call WriteFault = FailsToWrite words call
Says words call Memory = WantsMemory words call
Says words call TooLong = TakesTooMuch words call
Says words call HalfLine = EndsInLine words call

-- These bytes were written with this status, and no call of the sink failed; or the sink failed.
abbrev pub Wrote : Option (List ℕ) → Option (List ℕ) → ℕ → ℕ → List ℕ → Status → Status → Type 0
Wrote before after faults_before faults_after bytes status result =
    ((result ≡ status) × (after ≡ append_known before bytes) × (faults_after ≡ faults_before))
    ⊎ ((result ≡ WriteFault) × Rose faults_before faults_after × WroteBeginning before after bytes)

-- The count of faults didn't fall. The call ends with this status only if the count rose, and always if it is greater than
-- before.
pub record TellsFault (before now : ℕ) (fault result : Status) : Type 0 where
  pub later : before ≤ now
  pub only : result ≡ fault → Rose before now
  pub always : before < now → result ≡ fault
