-- What a call of the program took from its source and wrote to its sink, for each status.
use Rattle.std.specs.Prelude.{◌≡◌, ℕ, ◌<◌, ◌≤◌, List, [], length}
use Rattle.std.specs.declared.option.Option.{Option}
use Rattle.std.specs.Io.KnownBytes.{append_known, IsAtEnd}
use Rattle.rcv_io.specs.Causes.{Rose}
use Rattle.rcv_io.specs.Source.{Took}
use Rattle.rcv_io.specs.Sink.{WroteBeginning}
use Rattle.rcv_look.specs.declared.status.Status.{Status}
use Rattle.rcv_look.specs.declared.status.Status.TheVariants.{Drawn, Usage, Refused, ReadFault, WriteFault, Memory, TooLong, Illegal}
use Rattle.rcv_look.specs.Commands.{CommandView, IsCommand}
use Rattle.rcv_look.specs.Asking.{most_for, AskForSource}
use Rattle.rcv_look.specs.Inputs.{Reading, ReadNothing}
use Rattle.rcv_look.specs.Outcome.{IsOutcome}

-- What is told of a source and a sink before and after a call.
pub record Around : Type 0 where
  pub source : Reading
  pub written_before : Option (List ℕ)
  pub written_after : Option (List ℕ)
  pub write_faults_before : ℕ
  pub write_faults_after : ℕ

-- This is told of a source, and of a sink by its bytes and its faults.
abbrev pub around : {K : Type 0} → Reading → (K → Option (List ℕ)) → (K → ℕ) → K → K → Around
around source written faults sink sink_after =
    record {
      source = source;
      written_before = written sink;
      written_after = written sink_after;
      write_faults_before = faults sink;
      write_faults_after = faults sink_after;
    }

-- Nothing was written: what is told of the sink is as before.
pub record WroteNothing (call : Around) : Type 0 where
  pub written : call.written_after ≡ call.written_before
  pub faults : call.write_faults_after ≡ call.write_faults_before

-- These bytes were taken from the source.
abbrev pub Takes : Reading → List ℕ → Type 0
Takes source input = Took source.rest_before source.rest_after source.given_before source.given_after input

-- The input is what the source gave. Nothing was read if the words aren't a command that works on that: if they are no command,
-- and if they are `explain`.
pub record HasTaken (words : List (List ℕ)) (call : Around) (input : List ℕ) : Type 0 where
  pub takes : Takes call.source input
  pub unread : (AskForSource words → ⊥) → ReadNothing call.source

-- The input is what the source gave: all that it had if the words are a command that works on that, else nothing.
pub record IsInput (words : List (List ℕ)) (call : Around) (input : List ℕ) : Type 0 where
  pub taken : HasTaken words call input
  pub whole : AskForSource words → IsAtEnd call.source.rest_after

-- The words and the input have this status with some bytes, and the call wrote those.
pub record Answers (words : List (List ℕ)) (call : Around) (status : Status) : Type 0 where
  pub input : List ℕ
  pub bytes : List ℕ
  pub is_input : IsInput words call input
  pub outcome : IsOutcome words input status bytes
  pub writes : call.written_after ≡ append_known call.written_before bytes

-- The input, or the bundle in it, has too many bytes, and nothing was written.
pub record TakesTooMuch (words : List (List ℕ)) (call : Around) : Type 0 where
  pub input : List ℕ
  pub taken : HasTaken words call input
  pub outcome : IsOutcome words input TooLong []
  pub writes : WroteNothing call

-- The sink failed: its count of faults rose, and a beginning of the outcome's bytes was written, not all of them.
pub record FailsToWrite (words : List (List ℕ)) (call : Around) : Type 0 where
  pub rose : Rose call.write_faults_before call.write_faults_after
  pub input : List ℕ
  pub status : Status
  pub bytes : List ℕ
  pub is_input : IsInput words call input
  pub outcome : IsOutcome words input status bytes
  pub writes : WroteBeginning call.written_before call.written_after bytes

-- No more was taken than an input of the command may have.
abbrev pub IsWithinMost : List (List ℕ) → List ℕ → Type 0
IsWithinMost words input = (command : CommandView) → IsCommand words command → length input ≤ most_for command

-- Memory ran out: no more was taken than an input may have, and nothing was written. It may run out even if the words are no
-- command, since reading words takes memory.
pub record WantsMemory (words : List (List ℕ)) (call : Around) : Type 0 where
  pub input : List ℕ
  pub taken : HasTaken words call input
  pub short : IsWithinMost words input
  pub writes : WroteNothing call

-- The source failed: its count of faults rose. The words are a command that works on it, no more was taken than an
-- input may have, and nothing was written.
pub record FailsToRead (words : List (List ℕ)) (call : Around) : Type 0 where
  pub rose : Rose call.source.faults_before call.source.faults_after
  pub asked : AskForSource words
  pub input : List ℕ
  pub takes : Takes call.source input
  pub short : IsWithinMost words input
  pub writes : WroteNothing call

-- What each status says.
abbrev pub Says : List (List ℕ) → Around → Status → Type 0
Says words call Drawn = Answers words call Drawn
Says words call Usage = Answers words call Usage
Says words call Refused = Answers words call Refused
Says words call Illegal = Answers words call Illegal
Says words call ReadFault = FailsToRead words call
Says words call WriteFault = FailsToWrite words call
Says words call Memory = WantsMemory words call
Says words call TooLong = TakesTooMuch words call

-- The count of faults didn't fall. The call ends with this status only if it rose, and always if it is greater
-- than before.
pub record TellsFault (before now : ℕ) (fault result : Status) : Type 0 where
  pub later : before ≤ now
  pub only : result ≡ fault → Rose before now
  pub always : before < now → result ≡ fault
