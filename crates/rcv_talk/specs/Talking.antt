-- Rounds of a dialogue: lines that wait are answered, and then more is read.
use Rattle.std.specs.Prelude.{◌≡◌, ◌≢◌, ◌⊎◌, ◌≤◌, ⊤, ℕ, Bool, true, Option, List, [], ◌++◌, All, flat_map, Result, Ok, Err}
use Rattle.std.specs.Io.KnownBytes.{append_known, IsAtEnd}
use Rattle.rcv_tree.specs.declared.entry.Entry.{Entry}
use Rattle.rcv_io.specs.Causes.{Rose}
use Rattle.rcv_io.specs.Source.{Took}
use Rattle.rcv_io.specs.Sink.{WroteBeginning}
use Rattle.rcv_guided.specs.Session.{SessionView}
use Rattle.rcv_pipe.specs.Feeds.{HasNoFeed, ended}
use Rattle.rcv_pipe.specs.Pipe.{PipeView, Waits}
use Rattle.rcv_talk.specs.declared.status.Status.{Status}
use Rattle.rcv_talk.specs.declared.status.Status.TheVariants.{Done, Usage, Refused, ReadFault, WriteFault, Memory, TooLong, HalfLine}
use Rattle.rcv_talk.specs.Around.{Around, Takes, Writes}
use Rattle.rcv_talk.specs.Dialogue.{AreTold, GoOn, EndsByLine}

-- What was told to a session of some bytes, and what was answered; the rest isn't told.
pub record Tells (old : SessionView) (bytes output : List ℕ) (new : SessionView) (rest : List ℕ) : Type 0 where
  pub lines : List (List ℕ)
  pub whole : All HasNoFeed lines
  pub bytes_are : bytes ≡ flat_map ended lines ++ rest
  pub added : List Entry
  pub told : AreTold old lines output added new
  pub protocol : new.guide.protocol ≡ old.guide.protocol

-- No line of these ends the dialogue; or the last one does.
pub record TellsOn (old : SessionView) (bytes output : List ℕ) (new : SessionView) (rest : List ℕ) : Type 0 where
  pub tells : Tells old bytes output new rest
  pub go_on : GoOn old tells.lines

pub record TellsToEnd (old : SessionView) (bytes output : List ℕ) (new : SessionView) (rest : List ℕ) : Type 0 where
  pub tells : Tells old bytes output new rest
  pub ends : EndsByLine old tells.lines

-- Where a source ends: after a whole line, or within one.
abbrev pub Ends : List ℕ → Status → Type 0
Ends bytes Done = bytes ≡ []
Ends bytes HalfLine = bytes ≢ []
Ends bytes other = ⊥

-- ---- answers

-- Some lines that wait were answered, and what was answered was written; all that are whole, or not all.
pub record HasAnswered (old : SessionView) (bytes : List ℕ) (written_old written_new : Option (List ℕ)) (faults_old faults_new : ℕ) (new : SessionView) (pipe : PipeView) (all : Bool) : Type 0 where
  pub output : List ℕ
  pub rest : List ℕ
  pub tells : TellsOn old bytes output new rest
  pub written : written_new ≡ append_known written_old output
  pub calm : faults_new ≡ faults_old
  pub waits : Waits pipe rest
  pub lack : all ≡ true → HasNoFeed pipe.held

-- The last one ends the dialogue.
pub record HasEnded (old : SessionView) (bytes : List ℕ) (written_old written_new : Option (List ℕ)) (faults_old faults_new : ℕ) : Type 0 where
  pub output : List ℕ
  pub last : SessionView
  pub rest : List ℕ
  pub tells : TellsToEnd old bytes output last rest
  pub written : written_new ≡ append_known written_old output
  pub calm : faults_new ≡ faults_old

-- The sink failed.
pub record HasFailed (old : SessionView) (bytes : List ℕ) (written_old written_new : Option (List ℕ)) (faults_old faults_new : ℕ) : Type 0 where
  pub output : List ℕ
  pub last : SessionView
  pub rest : List ℕ
  pub tells : Tells old bytes output last rest
  pub beginning : WroteBeginning written_old written_new output
  pub rose : Rose faults_old faults_new

-- Nothing was written.
pub record IsSilent (written_old written_new : Option (List ℕ)) (faults_old faults_new : ℕ) : Type 0 where
  pub written : written_new ≡ written_old
  pub calm : faults_new ≡ faults_old

abbrev pub AnswersSome : SessionView → List ℕ → Option (List ℕ) → Option (List ℕ) → ℕ → ℕ → SessionView → PipeView → Result Bool Status → Type 0
AnswersSome old bytes w w' f f' new pipe (Ok all) = HasAnswered old bytes w w' f f' new pipe all
AnswersSome old bytes w w' f f' new pipe (Err Done) = HasEnded old bytes w w' f f'
AnswersSome old bytes w w' f f' new pipe (Err WriteFault) = HasFailed old bytes w w' f f'
AnswersSome old bytes w w' f f' new pipe (Err Memory) = IsSilent w w' f f'
AnswersSome old bytes w w' f f' new pipe (Err other) = ⊥

-- ---- waiting

-- More was read, and waits; or the source ended; or it failed.
pub record HasRead (bytes : List ℕ) (rest_old rest_new : Option (List ℕ)) (given_old given_new faults_old faults_new : ℕ) (pipe : PipeView) : Type 0 where
  pub read : List ℕ
  pub took : Took rest_old rest_new given_old given_new read
  pub waits : Waits pipe (bytes ++ read)
  pub calm : faults_new ≡ faults_old

pub record IsOver (bytes : List ℕ) (rest_old rest_new : Option (List ℕ)) (given_old given_new faults_old faults_new : ℕ) (status : Status) : Type 0 where
  pub took : Took rest_old rest_new given_old given_new []
  pub over : IsAtEnd rest_new
  pub ends : Ends bytes status
  pub lack : HasNoFeed bytes
  pub calm : faults_new ≡ faults_old

pub record FailsToRead (bytes : List ℕ) (rest_old rest_new : Option (List ℕ)) (given_old given_new faults_old faults_new : ℕ) : Type 0 where
  pub took : Took rest_old rest_new given_old given_new []
  pub lack : HasNoFeed bytes
  pub rose : Rose faults_old faults_new

abbrev pub WaitsForMore : List ℕ → Option (List ℕ) → Option (List ℕ) → ℕ → ℕ → ℕ → ℕ → PipeView → Result ⊤ Status → Type 0
WaitsForMore bytes r r' g g' f f' pipe (Ok _) = HasRead bytes r r' g g' f f' pipe
WaitsForMore bytes r r' g g' f f' pipe (Err ReadFault) = FailsToRead bytes r r' g g' f f'
WaitsForMore bytes r r' g g' f f' pipe (Err status) = IsOver bytes r r' g g' f f' status

-- ---- whole dialogues

-- Of some bytes that wait and of more that were read, lines are told and answered, and the rest isn't told.
pub record HasTalked (old : SessionView) (waiting : List ℕ) (call : Around) : Type 0 where
  pub read : List ℕ
  pub takes : Takes call read
  pub output : List ℕ
  pub last : SessionView
  pub rest : List ℕ
  pub tells : Tells old (waiting ++ read) output last rest

-- No call of the source failed; none of the sink did, and all answers were written.
abbrev pub SourceIsCalm : Around → Type 0
SourceIsCalm call = call.read_faults_after ≡ call.read_faults_before

pub record SinkIsCalm (call : Around) (output : List ℕ) : Type 0 where
  pub written : Writes call output
  pub calm : call.write_faults_after ≡ call.write_faults_before

-- The source ended.
pub record TalksToSourceEnd (old : SessionView) (waiting : List ℕ) (call : Around) (status : Status) : Type 0 where
  pub talk : HasTalked old waiting call
  pub go_on : GoOn old talk.tells.lines
  pub lack : HasNoFeed talk.rest
  pub ends : Ends talk.rest status
  pub over : IsAtEnd call.rest_after
  pub source : SourceIsCalm call
  pub sink : SinkIsCalm call talk.output

-- A line ended it.
pub record TalksToLine (old : SessionView) (waiting : List ℕ) (call : Around) : Type 0 where
  pub talk : HasTalked old waiting call
  pub ends : EndsByLine old talk.tells.lines
  pub source : SourceIsCalm call
  pub sink : SinkIsCalm call talk.output

-- The source failed, and all whole lines before were answered.
pub record TalksToReadFault (old : SessionView) (waiting : List ℕ) (call : Around) : Type 0 where
  pub talk : HasTalked old waiting call
  pub go_on : GoOn old talk.tells.lines
  pub lack : HasNoFeed talk.rest
  pub rose : Rose call.read_faults_before call.read_faults_after
  pub later : call.read_faults_before ≤ call.read_faults_after
  pub sink : SinkIsCalm call talk.output

-- The sink failed, and a beginning of the answers was written.
pub record TalksToWriteFault (old : SessionView) (waiting : List ℕ) (call : Around) : Type 0 where
  pub talk : HasTalked old waiting call
  pub beginning : WroteBeginning call.written_before call.written_after talk.output
  pub rose : Rose call.write_faults_before call.write_faults_after
  pub later : call.write_faults_before ≤ call.write_faults_after
  pub source : SourceIsCalm call

-- No memory was left for an answer, and those before were written.
pub record TalksToMemory (old : SessionView) (waiting : List ℕ) (call : Around) : Type 0 where
  pub talk : HasTalked old waiting call
  pub source : SourceIsCalm call
  pub sink : SinkIsCalm call talk.output

-- How a dialogue ends.
abbrev pub Talks : SessionView → List ℕ → Around → Status → Type 0
Talks old waiting call Done = TalksToLine old waiting call ⊎ TalksToSourceEnd old waiting call Done
Talks old waiting call HalfLine = TalksToSourceEnd old waiting call HalfLine
Talks old waiting call ReadFault = TalksToReadFault old waiting call
Talks old waiting call WriteFault = TalksToWriteFault old waiting call
Talks old waiting call Memory = TalksToMemory old waiting call
Talks old waiting call Usage = ⊥
Talks old waiting call Refused = ⊥
Talks old waiting call TooLong = ⊥

-- It goes on.
pub record TalksOn (old : SessionView) (waiting : List ℕ) (call : Around) (new : SessionView) (pipe : PipeView) : Type 0 where
  pub read : List ℕ
  pub takes : Takes call read
  pub output : List ℕ
  pub rest : List ℕ
  pub tells : TellsOn old (waiting ++ read) output new rest
  pub waits : Waits pipe rest
  pub source : SourceIsCalm call
  pub sink : SinkIsCalm call output

abbrev pub IsExchange : SessionView → List ℕ → Around → SessionView → PipeView → Result ⊤ Status → Type 0
IsExchange old waiting call new pipe (Ok _) = TalksOn old waiting call new pipe
IsExchange old waiting call new pipe (Err status) = Talks old waiting call status
