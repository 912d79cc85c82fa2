-- The steps of one thread, to the end.
use Rattle.std.proofs.Common.{◌≡◌, ℕ, ◌<◌, ◌≤◌, Bool, true, false, List, [], ◌∷◌, length, refl, sym, subst, arith, length-append}
use Rattle.std.specs.Prelude.{◌↔◌, IsTrue}
use Rattle.rcv_tree.specs.declared.entry.Entry.{Entry}
use Rattle.rcv_model.specs.Journal.{Rules, State, start, after, reading_from, IsLegal}
use Rattle.rcv_model.specs.Final.{IsFinal, AreDone, HasOneAtLimit, IsOneThreadFrom}
use Rattle.rcv_session.specs.Session.{SessionView, roles_of, rules_of}
use Rattle.rcv_core.specs.declared.skip.Skip.{Skip}
use Rattle.rcv_core.specs.Book.{BookView, state_of, most_entries, IsAtEnd}
use Rattle.rcv_core.specs.Skips.{IsSkip, no_skip}
use Rattle.rcv_alone.specs.Steps.{AreSteps, HasStepped}
use Rattle.rcv_alone.proofs.Stepping.{steps_more}
use Rattle.rcv_jobs.specs.Texts.{EndsWell, IsWritten, IsAloneText}
use Rattle.rcv_jobs.specs.Running.{IsRunning}
use Rattle.rcv_jobs.specs.Left.{left_behind}

-- before the first step nothing is known
pub first_runs : (session : SessionView) → IsRunning (record { setup = session; entries = [] }) no_skip
first_runs session = record {
  steps = tt;
  skip_is = record { calm = λ t. absurd (cc); idle = λ r lt. absurd (omega (arith, lt)) };
}

-- one step more
pub runs_on : (old new : BookView) (skip skip' : Skip) → IsRunning old skip → HasStepped old new → IsSkip new skip' → IsRunning new skip'
runs_on old new skip skip' runs stepped known = record {
  steps = subst (λ (b : BookView). AreSteps (rules_of b.setup) (start (roles_of b.setup)) b.entries) (sym stepped.added)
      (steps_more (rules_of old.setup) (start (roles_of old.setup)) old.entries stepped.entry runs.steps stepped.step);
  skip_is = known;
}

-- a step leaves fewer turns
pub step_leaves_fewer : (old new : BookView) → HasStepped old new → length old.entries ≤ most_entries (rules_of old.setup) → left_behind new < left_behind old
step_leaves_fewer old new stepped few =
    subst (λ (b : BookView). left_behind b < left_behind old) (sym stepped.added) (omega (arith, few, length-append old.entries (stepped.entry ∷ [])))

-- at the end the steps of one thread are its journal
steps_end : (rules : Rules) (s : State) (j : List Entry) → AreSteps rules s j → IsFinal rules (reading_from rules s j) → IsOneThreadFrom rules s j
steps_end rules s [] are end = end
steps_end rules s (e ∷ j) are end = (are.0, steps_end rules (after rules s e) j are.1 end)

pub is_written : (book : BookView) (skip : Skip) (json completed : Bool) (text : List ℕ) → IsRunning book skip → IsLegal (rules_of book.setup) book.entries → IsAtEnd book
    → IsTrue completed ↔ AreDone (rules_of book.setup) (state_of book) → (completed ≡ false → IsAtEnd book → HasOneAtLimit (rules_of book.setup) (state_of book))
    → IsWritten json book.setup book.entries text → IsAloneText book.setup json completed text
is_written book skip json completed text runs legal end done limit written = record {
  journal = book.entries;
  legal = legal;
  final = end;
  alone = steps_end (rules_of book.setup) (start (roles_of book.setup)) book.entries runs.steps end;
  ends = ends completed done limit;
  written = written;
}
  where
    ends : (b : Bool) → IsTrue b ↔ AreDone (rules_of book.setup) (state_of book) → (b ≡ false → IsAtEnd book → HasOneAtLimit (rules_of book.setup) (state_of book)) → EndsWell b (rules_of book.setup) (state_of book)
    ends true d l = d.0 refl
    ends false d l = l refl end
