-- What the writing of a journal leaves in a sink, by what is told of its bytes and of its faults, before and after.
use Rattle.std.specs.Prelude.{◌≡◌, ℕ, ◌≤◌, List}
use Rattle.std.specs.declared.option.Option.{Option}
use Rattle.std.specs.Io.KnownBytes.{append_known}
use Rattle.rcv_io.specs.Causes.{Rose}
use Rattle.rcv_io.specs.Sink.{WroteBeginning}
use Rattle.rcv_tree.specs.declared.entry.Entry.{Entry}
use Rattle.rcv_session.specs.Session.{SessionView}
use Rattle.rcv_journal.specs.Lines.{IsTextOf}

-- The whole text of the journal was written, and no call failed.
pub record WroteText (setup : SessionView) (entries : List Entry) (start now : Option (List ℕ)) (before faults : ℕ) : Type 0 where
  pub bytes : List ℕ
  pub is_text : IsTextOf setup entries bytes
  pub written : now ≡ append_known start bytes
  pub fine : faults ≡ before

-- A call failed: the count of faults rose, and a beginning of the text was written, not all of it.
pub record BrokeText (setup : SessionView) (entries : List Entry) (start now : Option (List ℕ)) (before faults : ℕ) : Type 0 where
  pub bytes : List ℕ
  pub is_text : IsTextOf setup entries bytes
  pub beginning : WroteBeginning start now bytes
  pub later : before ≤ faults
  pub rose : Rose before faults

-- What is told of the sink is as before.
pub record IsUntouched (start now : Option (List ℕ)) (before faults : ℕ) : Type 0 where
  pub written : now ≡ start
  pub fine : faults ≡ before
