-- What is found in an input, from what is found in its parts.
use Rattle.std.proofs.Common.{◌≡◌, ℕ, ◌+◌, ◌<◌, ◌≤◌, Bool, true, false, List, [], Some, None, inl, inr, refl, sym, ◌∙◌, subst}
use Rattle.std.specs.Prelude.{Result, Ok, Err, IfOk}
use Rattle.rcv_tree.specs.declared.protocol.Protocol.{Protocol}
use Rattle.rcv_session.specs.Session.{SessionView}
use Rattle.rcv_input.specs.declared.refused.Refused as refusals
use Rattle.rcv_input.specs.declared.refused.Refused.TheVariants.{Line}
use Rattle.rcv_input.specs.Input.{IsTaken}
use Rattle.rcv_input.specs.Refusals.{IsFirstRefusal}
use Rattle.rcv_journal.specs.Form.{IsFirstWrong, Spells}
use Rattle.rcv_journal.specs.Recorded.{JournalView, bare}
use Rattle.rcv_replay.specs.declared.cut.Cut.{Cut}
use Rattle.rcv_replay.specs.Cutting.{cut_of, bundle_of, journal_of, feeds_before, line_of_end}
use Rattle.rcv_diagnosis.specs.declared.diagnosis.Diagnosis.{Diagnosis}
use Rattle.rcv_diagnosis.specs.declared.diagnosis.Finding.TheVariants.{TooLong}
use Rattle.rcv_diagnosis.specs.declared.written.Written.TheVariants.{Lines, Json}
use Rattle.rcv_diagnosis.specs.Diagnosing.{is_json, IsRefusal, IsOfJournal, IsJsonOf, IsOfLines, IsOfJson, IsOfText, IsOfBundle, IsOfInput, IsDiagnosis}
use Rattle.rcv_diagnosis.proofs.Saying.{Answers, widen}

-- a bundle that is too long
pub long_found : (input : List ℕ) (cut : Cut) (bytes : List ℕ) → cut_of input ≡ Some cut → 1048576 < cut.end → bytes ≡ [] → IsDiagnosis input TooLong bytes
long_found input cut bytes is long none = inl (cut, is, long, refl, none)

module _ {E : Type 0} (result : Result Diagnosis E) where
  pub diagnosed : (input : List ℕ) → Answers (IsOfInput input) result → IfOk result (λ answer. IsDiagnosis input answer.finding answer.bytes.items)
  diagnosed input found = go result found
    where
      go : (r : Result Diagnosis E) → Answers (IsOfInput input) r → IfOk r (λ answer. IsDiagnosis input answer.finding answer.bytes.items)
      go (Ok answer) says = inr says
      go (Err e) says = tt

  -- no separator
  pub uncut_found : (input : List ℕ) (line : ℕ) → cut_of input ≡ None → line ≡ line_of_end input → Answers (IsRefusal (Line 50 line)) result → Answers (IsOfInput input) result
  uncut_found input line none is found =
      widen (IsRefusal (Line 50 line)) (IsOfInput input) result
      (λ x more said. inl (none, subst (λ (n : ℕ). IsRefusal (Line 50 n) x more) is said)) found

  -- a bundle with its text
  pub parted_found : (input : List ℕ) (cut : Cut) (bundle text : List ℕ) (feeds : ℕ) → cut_of input ≡ Some cut → cut.end ≤ 1048576
      → bundle ≡ bundle_of input cut → text ≡ journal_of input cut → feeds ≡ feeds_before input cut
      → Answers (IsOfBundle bundle text feeds) result → Answers (IsOfInput input) result
  parted_found input cut bundle text feeds is few same_bundle same_text same_feeds found =
      widen (IsOfBundle bundle text feeds) (IsOfInput input) result
      (λ x more of. inr (
        cut,
        is,
        few,
        subst (λ (n : ℕ). IsOfBundle (bundle_of input cut) (journal_of input cut) n x more) same_feeds
            (subst (λ (t : List ℕ). IsOfBundle (bundle_of input cut) t feeds x more) same_text (subst (λ (u : List ℕ). IsOfBundle u text feeds x more) same_bundle of)),
      )) found

  -- a bundle that is taken, or refused
  pub taken_found : (bundle text : List ℕ) (session : SessionView) (feeds : ℕ) → IsTaken bundle session
      → Answers (IsOfText (is_json text) session text feeds) result → Answers (IsOfBundle bundle text feeds) result
  taken_found bundle text session feeds taken found =
      widen (IsOfText (is_json text) session text feeds) (IsOfBundle bundle text feeds) result (λ x more of. inr (session, taken, of)) found

  pub refused_found : (bundle text : List ℕ) (feeds : ℕ) (r told : refusals.Refused) → IsFirstRefusal bundle r → told ≡ r
      → Answers (IsRefusal told) result → Answers (IsOfBundle bundle text feeds) result
  refused_found bundle text feeds r told first same found =
      widen (IsRefusal told) (IsOfBundle bundle text feeds) result
      (λ x more said. inl (r, first, subst (λ (t : refusals.Refused). IsRefusal t x more) same said)) found

  -- lines, and JSON
  pub lines_found : (session : SessionView) (text : List ℕ) (feeds : ℕ) (b : Bool) → is_json text ≡ b → b ≡ false → Answers (IsOfLines session text feeds) result → Answers (IsOfText (is_json text) session text feeds) result
  lines_found session text feeds b is other found = subst (λ (c : Bool). Answers (IsOfText c session text feeds) result) (sym (is ∙ other)) found

  pub json_found : (session : SessionView) (text : List ℕ) (feeds : ℕ) (b : Bool) → is_json text ≡ b → b ≡ true → Answers (IsOfJson session text feeds) result → Answers (IsOfText (is_json text) session text feeds) result
  json_found session text feeds b is brace found = subst (λ (c : Bool). Answers (IsOfText c session text feeds) result) (sym (is ∙ brace)) found

  -- a text of the form, and one with a wrong line
  pub formed_found : (session : SessionView) (protocol : Protocol) (text : List ℕ) (feeds : ℕ) (j : JournalView) → protocol ≡ session.protocol → Spells (bare protocol) text j
      → Answers (IsOfJournal session j (Lines feeds)) result → Answers (IsOfLines session text feeds) result
  formed_found session protocol text feeds j same spells found =
      widen (IsOfJournal session j (Lines feeds)) (IsOfLines session text feeds) result
      (λ x more of. inr (j, subst (λ (p : Protocol). Spells (bare p) text j) same spells, of)) found

  pub malformed_found : (session : SessionView) (protocol : Protocol) (text : List ℕ) (feeds k line : ℕ) → protocol ≡ session.protocol → IsFirstWrong (bare protocol) text k → line ≡ feeds + k
      → Answers (IsRefusal (Line 51 line)) result → Answers (IsOfLines session text feeds) result
  malformed_found session protocol text feeds k line same wrong is found =
      widen (IsRefusal (Line 51 line)) (IsOfLines session text feeds) result
      (λ x more said. inl (k, subst (λ (p : Protocol). IsFirstWrong (bare p) text k) same wrong, subst (λ (n : ℕ). IsRefusal (Line 51 n) x more) is said)) found

  -- JSON of the form, and not
  pub decoded_found : (session : SessionView) (text : List ℕ) (feeds : ℕ) (j : JournalView) → IsJsonOf session.protocol text j
      → Answers (IsOfJournal session j Json) result → Answers (IsOfJson session text feeds) result
  decoded_found session text feeds j is found =
      widen (IsOfJournal session j Json) (IsOfJson session text feeds) result (λ x more of. inr (j, is, of)) found

  pub shapeless_found : (session : SessionView) (text : List ℕ) (feeds : ℕ) → ((j : JournalView) → IsJsonOf session.protocol text j → ⊥)
      → Answers (IsRefusal (Line 51 (feeds + 1))) result → Answers (IsOfJson session text feeds) result
  shapeless_found session text feeds none found =
      widen (IsRefusal (Line 51 (feeds + 1))) (IsOfJson session text feeds) result (λ x more said. inl (none, said)) found
