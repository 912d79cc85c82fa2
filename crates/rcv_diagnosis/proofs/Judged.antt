-- What is found in a journal, from what its parts are.
use Rattle.std.proofs.Common.{◌≡◌, ℕ, ◌+◌, Bool, true, List, [], length, take, Some, refl, sym, subst}
use Rattle.std.specs.Prelude.{◌≢◌, ◌↔◌, Result, slice_get}
use Rattle.rcv_tree.specs.declared.entry.Entry.{Entry}
use Rattle.rcv_model.specs.Journal.{reading, IsLegal}
use Rattle.rcv_session.specs.Session.{SessionView, rules_of}
use Rattle.rcv_core.specs.Book.{BookView}
use Rattle.rcv_journal.specs.Recorded.{JournalView}
use Rattle.rcv_judge.specs.Closing.{ClosesRight, IsFirstWrongClosing}
use Rattle.rcv_judge.specs.Judged.{IsFirstWrong}
use Rattle.rcv_judge.proofs.FirstWrong.{one_first}
use Rattle.rcv_replay.proofs.Judging.{legal_said, misclosed_said}
use Rattle.rcv_diagnosis.specs.declared.diagnosis.Diagnosis.{Diagnosis}
use Rattle.rcv_diagnosis.specs.declared.written.Written.{Written}
use Rattle.rcv_diagnosis.specs.Making.{book_of}
use Rattle.rcv_diagnosis.specs.Diagnosing.{IsToldOfEntry, IsToldOfEnd, IsOfJournal, IsWrongEntry, IsWrongEnd, IsLegalOf}
use Rattle.rcv_diagnosis.proofs.Saying.{Answers, widen}

-- the entries before the first wrong one have no wrong one
pub none_before : (session : SessionView) (entries : List Entry) (i k : ℕ) → IsFirstWrong (rules_of session) entries i → IsFirstWrong (rules_of session) (take i entries) k → ⊥
none_before session entries i k first other = (one_first (rules_of session) (take i entries) k k).none first.before other

module _ {E : Type 0} (result : Result Diagnosis E) (session : SessionView) (j : JournalView) (written : Written) where
  -- a wrong entry
  pub entry_found : (book : BookView) (i k : ℕ) (e : Entry) → book ≡ record { setup = session; entries = take i j.entries } → k ≡ i + 1 → slice_get j.entries i ≡ Some e → IsFirstWrong (rules_of session) j.entries i
      → Answers (IsWrongEntry book written k e) result → Answers (IsOfJournal session j written) result
  entry_found book i k e is number at first found =
      widen (IsWrongEntry book written k e) (IsOfJournal session j written) result
      (λ x more told. subst (λ y. IsOfJournal session j written y more) (sym told.0)
      ((i, number, first), (i, number, e, at, subst (λ (b : BookView). IsToldOfEntry b written k e more) is told.1))) found

  -- a wrong end
  pub end_found : (book : BookView) (k : ℕ) → book.setup ≡ session → book.entries ≡ j.entries → IsLegal (rules_of session) j.entries
      → IsFirstWrongClosing (rules_of session) (reading (rules_of session) j.entries) j.roles j.limited k
      → Answers (IsWrongEnd book) result → Answers (IsOfJournal session j written) result
  end_found book k setup entries legal wrong found =
      widen (IsWrongEnd book) (IsOfJournal session j written) result
      (λ x more told. subst (λ y. IsOfJournal session j written y more) (sym told.0)
      (misclosed_said session j j.entries k refl legal wrong, subst (λ (b : BookView). IsToldOfEnd b more) (same book setup entries) told.1)) found
    where
      same : (b : BookView) → b.setup ≡ session → b.entries ≡ j.entries → b ≡ book_of session j.entries
      same b s es n = record { setup = s n; entries = es n }

  -- a legal journal
  pub legal_found : (count : ℕ) (limited : Bool) → IsLegal (rules_of session) j.entries → ClosesRight session j.entries j.roles j.limited → count ≡ length j.entries → (limited ≡ true) ↔ (j.limited ≢ [])
      → Answers (IsLegalOf count limited) result → Answers (IsOfJournal session j written) result
  legal_found count limited legal closes many some found =
      widen (IsLegalOf count limited) (IsOfJournal session j written) result
      (λ x more told. subst (λ y. IsOfJournal session j written y more) (sym told.0)
      (legal_said session j j.entries count limited refl legal closes many some, told.1)) found
