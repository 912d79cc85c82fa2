-- A book to which one thread adds entries.
use Rattle.rcv_model.specs.Journal.{start}
use Rattle.rcv_session.specs.Session.{roles_of, rules_of}
use Rattle.rcv_core.specs.declared.skip.Skip.{Skip}
use Rattle.rcv_core.specs.Book.{BookView}
use Rattle.rcv_core.specs.Skips.{IsSkip}
use Rattle.rcv_alone.specs.Steps.{AreSteps}

-- All entries so far are steps of one thread, and what is known of the next one holds.
pub record IsRunning (book : BookView) (skip : Skip) : Type 0 where
  pub steps : AreSteps (rules_of book.setup) (start (roles_of book.setup)) book.entries
  pub skip_is : IsSkip book skip
