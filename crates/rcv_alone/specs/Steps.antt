-- The steps that one thread makes of a session.
use Rattle.std.specs.Prelude.{◌≡◌, List, [], ◌∷◌}
use Rattle.rcv_tree.specs.declared.entry.Entry.{Entry}
use Rattle.rcv_model.specs.Journal.{Rules, State, after}
use Rattle.rcv_model.specs.Final.{IsStep}
use Rattle.rcv_session.specs.Session.{rules_of}
use Rattle.rcv_core.specs.Book.{BookView, state_of, with_entry}

-- One entry was added: the one that one thread makes next.
pub record HasStepped (old new : BookView) : Type 0 where
  pub entry : Entry
  pub step : IsStep (rules_of old.setup) (state_of old) entry
  pub added : new ≡ with_entry old entry

-- Each of these entries is the one that one thread makes next.
abbrev pub AreSteps : Rules → State → List Entry → Type 0
AreSteps rules s [] = Unit {0}
AreSteps rules s (e ∷ more) = IsStep rules s e × AreSteps rules (after rules s e) more
