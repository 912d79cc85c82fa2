-- What is written of a session that one thread ran to its end.
use Rattle.std.specs.Prelude.{ℕ, Bool, true, false, List}
use Rattle.rcv_tree.specs.declared.entry.Entry.{Entry}
use Rattle.rcv_model.specs.Journal.{Rules, State, reading, IsLegal}
use Rattle.rcv_model.specs.Final.{IsFinal, AreDone, HasOneAtLimit, IsOneThread}
use Rattle.rcv_session.specs.Session.{SessionView, rules_of}
use Rattle.rcv_journal.specs.Lines.{IsTextOf}
use Rattle.rcv_journal.specs.Json.{IsJsonOf}

-- The bytes are the journal's JSON, or its text.
abbrev pub IsWritten : Bool → SessionView → List Entry → List ℕ → Type 0
IsWritten true session journal bytes = IsJsonOf session journal bytes
IsWritten false session journal bytes = IsTextOf session journal bytes

-- How a final state ended: with all roles done, or with one that isn't at the limit.
abbrev pub EndsWell : Bool → Rules → State → Type 0
EndsWell true rules s = AreDone rules s
EndsWell false rules s = HasOneAtLimit rules s

-- The JSON or the text of the journal that one thread makes of a session, which is legal and final, and how that ended.
pub record IsAloneText (session : SessionView) (json completed : Bool) (text : List ℕ) : Type 0 where
  pub journal : List Entry
  pub legal : IsLegal (rules_of session) journal
  pub final : IsFinal (rules_of session) (reading (rules_of session) journal)
  pub alone : IsOneThread (rules_of session) journal
  pub ends : EndsWell completed (rules_of session) (reading (rules_of session) journal)
  pub written : IsWritten json session journal text
