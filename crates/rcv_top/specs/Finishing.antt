-- What workers make of a book.
use Rattle.std.specs.Prelude.{ℕ, Bool, List}
use Rattle.rcv_tree.specs.declared.entry.Entry.{Entry}
use Rattle.rcv_model.specs.Journal.{reading, IsLegal}
use Rattle.rcv_model.specs.Final.{IsFinal}
use Rattle.rcv_session.specs.Session.{SessionView, rules_of}
use Rattle.rcv_core.specs.Book.{BookView}
use Rattle.rcv_jobs.specs.Texts.{IsWritten}
use Rattle.rcv_super.specs.Finish.{HasFinished}
use Rattle.rcv_top.specs.declared.status.Status.{Status}
use Rattle.rcv_top.specs.Running.{EndsAs}

-- A legal journal of the session that is final and ends with this status, and these bytes are its JSON or its text.
pub record EndsSo (json : Bool) (session : SessionView) (journal : List Entry) (status : Status) (bytes : List ℕ) : Type 0 where
  pub legal : IsLegal (rules_of session) journal
  pub final : IsFinal (rules_of session) (reading (rules_of session) journal)
  pub ends : EndsAs (rules_of session) (reading (rules_of session) journal) status
  pub written : IsWritten json session journal bytes

-- So many workers brought the book to its end, and these are the status and the bytes of its journal.
pub record FinishesAs (workers : ℕ) (json : Bool) (first : BookView) (status : Status) (bytes : List ℕ) : Type 0 where
  pub last : BookView
  pub finished : HasFinished workers first last
  pub ends_so : EndsSo json last.setup last.entries status bytes
