-- The session with one crash alone, and its journal up to the recovery.
use Rattle.std.specs.Prelude.{◌≡◌, ℕ, List, [], ◌∷◌, MatchOption, Option}
use Rattle.std.specs.List.{All}
use Rattle.rcv_tree.specs.declared.entry.Entry.{Entry}
use Rattle.rcv_tree.specs.declared.entry.Entry.TheVariants.{Send, Recv, Crash, Recover}
use Rattle.rcv_model.specs.Journal.{Rules, State, after}
use Rattle.rcv_model.specs.Final.{IsStep}
use Rattle.rcv_session.specs.Session.{SessionView, rules_of}
use Rattle.rcv_plan.specs.OneCrash.{calm_lines, with_one_crash}
use Rattle.rcv_core.specs.Setup.{with_plan}
use Rattle.rcv_core.specs.Book.{BookView, state_of, with_more, IsAtEnd}

-- The session in which role r alone crashes, once, at the count n.
abbrev pub crash_session : SessionView → ℕ → ℕ → SessionView
crash_session session r n = with_plan session (with_one_crash r n session.plan)

-- The other session differs from this one in crash lines alone.
pub record DiffersInCrashes (session other : SessionView) : Type 0 where
  pub protocol : other.protocol ≡ session.protocol
  pub scripts : other.scripts ≡ session.scripts
  pub plan : calm_lines other.plan ≡ calm_lines session.plan

-- The entry is a Recover; or it isn't.
abbrev pub IsRecover : Entry → Type 0
IsRecover (Send e) = ⊥
IsRecover (Recv e) = ⊥
IsRecover (Crash r) = ⊥
IsRecover (Recover r concerned kept undone) = Unit {0}

abbrev pub IsNoRecover : Entry → Type 0
IsNoRecover e = IsRecover e → ⊥

-- One thread's steps from a state, one after another; it may go on after them.
abbrev pub IsBeginningFrom : Rules → State → List Entry → Type 0
IsBeginningFrom rules s [] = Unit {0}
IsBeginningFrom rules s (e ∷ more) = IsStep rules s e × IsBeginningFrom rules (after rules s e) more

-- The book went on by one thread's steps, none of which is a Recover.
pub record GoesOnCalmly (old new : BookView) : Type 0 where
  pub more : List Entry
  pub added : new ≡ with_more old more
  pub steps : IsBeginningFrom (rules_of old.setup) (state_of old) more
  pub calmly : All IsNoRecover more

-- Next comes this Recover, or the session is at its end.
abbrev pub IsNextRecover : BookView → Entry → Type 0
IsNextRecover book e = IsRecover e × IsStep (rules_of book.setup) (state_of book) e

abbrev pub ComesToRecovery : BookView → BookView → Option Entry → Type 0
ComesToRecovery old new next = GoesOnCalmly old new × MatchOption next (IsAtEnd new) (IsNextRecover new)
