-- What a call does after the text: the session begins, its first line is written, and its dialogue is held.
use Rattle.std.specs.Prelude.{◌≡◌, ◌⊎◌, ℕ, ◌≤◌, List}
use Rattle.std.specs.declared.option.Option.{Option}
use Rattle.std.specs.Io.KnownBytes.{append_known}
use Rattle.rcv_io.specs.Causes.{Rose}
use Rattle.rcv_io.specs.Sink.{WroteBeginning}
use Rattle.rcv_input.specs.declared.refused.Refused.{Refused as Refusal}
use Rattle.rcv_input.specs.Line.{refusal_line}
use Rattle.rcv_input.specs.Refusals.{IsFirstRefusal}
use Rattle.rcv_guided.specs.Session.{SessionView}
use Rattle.rcv_guided.specs.declared.saving.Saving.{Saving}
use Rattle.rcv_talk.specs.declared.status.Status.{Status}
use Rattle.rcv_talk.specs.declared.status.Status.TheVariants.{Refused, WriteFault, Memory}
use Rattle.rcv_talk.specs.Around.{Around}
use Rattle.rcv_talk.specs.Openings.{Begins, ready_line}
use Rattle.rcv_talk.specs.Talking.{Talks}
use Rattle.rcv_talk.specs.Calls.{Wrote}

-- Nothing was read.
pub record IsUnread (call : Around) : Type 0 where
  pub rest : call.rest_after ≡ call.rest_before
  pub given : call.given_after ≡ call.given_before
  pub calm : call.read_faults_after ≡ call.read_faults_before

-- Nothing was read, and these bytes were written with this status; or the sink failed.
pub record OnlyWrites (call : Around) (bytes : List ℕ) (status result : Status) : Type 0 where
  pub unread : IsUnread call
  pub wrote : Wrote call.written_before call.written_after call.write_faults_before call.write_faults_after bytes status result
  pub later : call.write_faults_before ≤ call.write_faults_after

-- No memory was left, and nothing was read or written.
pub record OnlyWants (call : Around) (result : Status) : Type 0 where
  pub is : result ≡ Memory
  pub unread : IsUnread call
  pub silent : call.written_after ≡ call.written_before
  pub calm : call.write_faults_after ≡ call.write_faults_before

-- The sink failed with these bytes, and nothing was read.
pub record OnlyFails (call : Around) (bytes : List ℕ) (result : Status) : Type 0 where
  pub is : result ≡ WriteFault
  pub unread : IsUnread call
  pub beginning : WroteBeginning call.written_before call.written_after bytes
  pub rose : Rose call.write_faults_before call.write_faults_after
  pub later : call.write_faults_before ≤ call.write_faults_after

-- The first line was written, and the dialogue was held after it.
pub record TalksBehindLine (s : SessionView) (waiting : List ℕ) (call : Around) (result : Status) : Type 0 where
  pub between : Option (List ℕ)
  pub line : between ≡ append_known call.written_before (ready_line s)
  pub talks : Talks s waiting (record call { written_before = between }) result

-- So a session is told what waits and what is read after that.
abbrev pub Converses : SessionView → List ℕ → Around → Status → Type 0
Converses s waiting call result =
    TalksBehindLine s waiting call result ⊎ (OnlyFails call (ready_line s) result ⊎ OnlyWants call result)

-- The text's refusal is written.
pub record OnlyRefuses (text : List ℕ) (call : Around) (result : Status) : Type 0 where
  pub refusal : Refusal
  pub first : IsFirstRefusal text refusal
  pub writes : OnlyWrites call (refusal_line refusal) Refused result

-- The text has a session. It is told what waits and what is read after that.
pub record ConversesOf (text : List ℕ) (saving : Saving) (waiting : List ℕ) (call : Around) (result : Status) : Type 0 where
  pub start : SessionView
  pub begins : Begins text saving start
  pub converses : Converses start waiting call result

-- What comes of a text.
abbrev pub ComesOfText : List ℕ → Saving → List ℕ → Around → Status → Type 0
ComesOfText text saving waiting call result =
    ConversesOf text saving waiting call result ⊎ (OnlyRefuses text call result ⊎ OnlyWants call result)
