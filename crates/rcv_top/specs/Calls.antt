-- What a call of the program took from its source and wrote to its sink, for each status.
use Rattle.std.specs.Prelude.{◌≡◌, ℕ, ◌<◌, ◌≤◌, List, [], length}
use Rattle.std.specs.declared.option.Option.{Option}
use Rattle.std.specs.Io.KnownBytes.{append_known, IsAtEnd}
use Rattle.rcv_io.specs.Causes.{Rose}
use Rattle.rcv_io.specs.Source.{Took}
use Rattle.rcv_io.specs.Sink.{WroteBeginning}
use Rattle.rcv_top.specs.declared.status.Status.{Status}
use Rattle.rcv_top.specs.declared.status.Status.TheVariants.{Completed, Usage, Refused, Limited, ReadFault, WriteFault, Memory, TooLong, Wrong}
use Rattle.rcv_top.specs.Commands.{AskForSource}
use Rattle.rcv_top.specs.Inputs.{Reading, ReadNothing}
use Rattle.rcv_top.specs.Outcome.{most_bytes, IsOutcome}

-- What is told of a source and a sink before and after a call.
pub record Around : Type 0 where
  pub rest_before : Option (List ℕ)
  pub rest_after : Option (List ℕ)
  pub given_before : ℕ
  pub given_after : ℕ
  pub read_faults_before : ℕ
  pub read_faults_after : ℕ
  pub written_before : Option (List ℕ)
  pub written_after : Option (List ℕ)
  pub write_faults_before : ℕ
  pub write_faults_after : ℕ

-- What these functions tell of a source (its bytes, its count of given ones and its faults) and of a sink, before and after.
abbrev pub around : {S K : Type 0}
    → (rest : S → Option (List ℕ)) (given read_faults : S → ℕ) (source source_after : S)
    → (written : K → Option (List ℕ)) (write_faults : K → ℕ) (sink sink_after : K) → Around
around rest given read_faults source source_after written write_faults sink sink_after =
    record {
      rest_before = rest source;
      rest_after = rest source_after;
      given_before = given source;
      given_after = given source_after;
      read_faults_before = read_faults source;
      read_faults_after = read_faults source_after;
      written_before = written sink;
      written_after = written sink_after;
      write_faults_before = write_faults sink;
      write_faults_after = write_faults sink_after;
    }

-- What of that is told of the source.
abbrev pub source_of : Around → Reading
source_of call =
    record {
      rest_before = call.rest_before;
      rest_after = call.rest_after;
      given_before = call.given_before;
      given_after = call.given_after;
      faults_before = call.read_faults_before;
      faults_after = call.read_faults_after;
    }

-- Nothing was written: what is told of the sink is as before.
pub record WroteNothing (call : Around) : Type 0 where
  pub written : call.written_after ≡ call.written_before
  pub faults : call.write_faults_after ≡ call.write_faults_before

-- These bytes were taken from the source.
abbrev pub Takes : Around → List ℕ → Type 0
Takes call input = Took call.rest_before call.rest_after call.given_before call.given_after input

-- The input is what the source gave. Nothing was read if the words aren't a command that works on that: they are no command, or they are
-- `gen`.
pub record HasTaken (words : List (List ℕ)) (call : Around) (input : List ℕ) : Type 0 where
  pub takes : Takes call input
  pub unread : (AskForSource words → ⊥) → ReadNothing (source_of call)

-- The input is what the source gave: all that it had if the words are a command that works on that, else nothing.
pub record IsInput (words : List (List ℕ)) (call : Around) (input : List ℕ) : Type 0 where
  pub taken : HasTaken words call input
  pub whole : AskForSource words → IsAtEnd call.rest_after

-- The words and the input have an outcome with this status, and the call wrote its bytes.
pub record Answers (words : List (List ℕ)) (call : Around) (status : Status) : Type 0 where
  pub input : List ℕ
  pub bytes : List ℕ
  pub is_input : IsInput words call input
  pub outcome : IsOutcome words input status bytes
  pub writes : call.written_after ≡ append_known call.written_before bytes

-- The words are a command that works on the source, more was taken than an input may have, and nothing was written.
pub record TakesTooMuch (words : List (List ℕ)) (call : Around) : Type 0 where
  pub command : AskForSource words
  pub input : List ℕ
  pub takes : Takes call input
  pub outcome : IsOutcome words input TooLong []
  pub writes : WroteNothing call

-- The sink failed: its count of faults rose, and a beginning of the outcome's bytes was written, not all of them.
pub record FailsToWrite (words : List (List ℕ)) (call : Around) : Type 0 where
  pub rose : Rose call.write_faults_before call.write_faults_after
  pub input : List ℕ
  pub status : Status
  pub bytes : List ℕ
  pub is_input : IsInput words call input
  pub outcome : IsOutcome words input status bytes
  pub writes : WroteBeginning call.written_before call.written_after bytes

-- Memory ran out: no more was taken than an input may have, and nothing was written. That may happen even if the words are no command,
-- since it takes memory to read words.
pub record WantsMemory (words : List (List ℕ)) (call : Around) : Type 0 where
  pub input : List ℕ
  pub taken : HasTaken words call input
  pub short : length input ≤ most_bytes
  pub writes : WroteNothing call

-- The source failed: its count of faults rose. The words are a command that works on it, no more was taken than an input
-- may have, and nothing was written.
pub record FailsToRead (words : List (List ℕ)) (call : Around) : Type 0 where
  pub rose : Rose call.read_faults_before call.read_faults_after
  pub command : AskForSource words
  pub input : List ℕ
  pub takes : Takes call input
  pub short : length input ≤ most_bytes
  pub writes : WroteNothing call

-- What each status says.
abbrev pub Says : List (List ℕ) → Around → Status → Type 0
Says words call Completed = Answers words call Completed
Says words call Usage = Answers words call Usage
Says words call Refused = Answers words call Refused
Says words call Limited = Answers words call Limited
Says words call ReadFault = FailsToRead words call
Says words call WriteFault = FailsToWrite words call
Says words call Memory = WantsMemory words call
Says words call TooLong = TakesTooMuch words call
Says words call Wrong = Answers words call Wrong

-- The count of faults didn't fall. The call ends with this status only if it rose, and always if it is greater than before.
pub record TellsFault (before now : ℕ) (fault result : Status) : Type 0 where
  pub later : before ≤ now
  pub only : result ≡ fault → Rose before now
  pub always : before < now → result ≡ fault
