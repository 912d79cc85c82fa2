-- A book that one thread brought to its end has the journal of one thread.
use Rattle.std.proofs.Common.{◌≡◌, ℕ, List, [], sym, subst}
use Rattle.std.specs.Prelude.{Result, Ok, Err, IsErrAnd, MatchResult}
use Rattle.rcv_tree.specs.declared.entry.Entry.{Entry}
use Rattle.rcv_model.specs.Final.{IsOneThread}
use Rattle.rcv_model.proofs.OneThread.{one_journal}
use Rattle.rcv_session.specs.Session.{SessionView, rules_of}
use Rattle.rcv_input.specs.declared.refused.InputError.{InputError}
use Rattle.rcv_input.specs.declared.refused.InputError.TheVariants as causes
use Rattle.rcv_input.specs.Refusals.{IsRefused}
use Rattle.rcv_core.specs.Book.{BookView, EndsAlone, IsAtEnd}

pub record Ended (session : SessionView) (book : BookView) : Type 0 where
  pub journal : List Entry
  pub is : book ≡ record { setup = session; entries = journal }
  pub alone : IsOneThread (rules_of session) journal

pub ended : (session : SessionView) (first last : BookView) → first ≡ record { setup = session; entries = [] } → EndsAlone first last → Ended session last
ended session first last empty ends = record { journal = here.more; is = here.added; alone = here.alone }
  where
    here : EndsAlone (record { setup = session; entries = [] }) last
    here = subst (λ (b : BookView). EndsAlone b last) empty ends

-- and is at its end
pub at_end : (session : SessionView) (book : BookView) → Ended session book → IsAtEnd book
at_end session book e = subst IsAtEnd (sym e.is) ((one_journal (rules_of session) e.journal e.journal).final e.alone)

-- if memory runs out, nothing is said of the text
pub out_of_memory : {A : Type 0} (input : List ℕ) (result : Result A InputError) (good : A → Type 0) → IsErrAnd result (λ e. e ≡ causes.Memory) → MatchResult result good (IsRefused input)
out_of_memory input (Ok x) good is = absurd is
out_of_memory input (Err e) good is = subst (IsRefused input) (sym is) tt
