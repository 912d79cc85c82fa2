-- What is answered to a journal, from what its parts are.
use Rattle.std.proofs.Common.{◌≡◌, ℕ, ◌+◌, ◌<◌, ◌≤◌, true, false, List, [], length, Some, None, sym, ◌∙◌, ap, subst}
use Rattle.std.specs.Prelude.{Result, IfOk}
use Rattle.rcv_tree.specs.declared.entry.Entry.{Entry}
use Rattle.rcv_tree.specs.declared.protocol.Protocol.{Protocol}
use Rattle.rcv_model.specs.Journal.{reading, IsLegal}
use Rattle.rcv_session.specs.Session.{SessionView, rules_of}
use Rattle.rcv_input.specs.declared.refused.Refused as refusals
use Rattle.rcv_input.specs.declared.refused.InputError.{InputError}
use Rattle.rcv_input.specs.declared.refused.InputError.TheVariants as causes
use Rattle.rcv_input.specs.Input.{IsTaken}
use Rattle.rcv_input.specs.Refusals.{IsRefused}
use Rattle.rcv_input.specs.Line.{refusal_line}
use Rattle.rcv_journal.specs.Form.{IsFirstWrong, Spells}
use Rattle.rcv_journal.specs.Recorded.{JournalView, bare}
use Rattle.rcv_judge.specs.Closing.{ClosesRight, IsFirstWrongClosing}
use Rattle.rcv_judge.specs.Judged.{IsFirstWrong as IsFirstIllegal}
use Rattle.rcv_replay.specs.declared.cut.Cut.{Cut}
use Rattle.rcv_look.specs.declared.output.Output.{Output}
use Rattle.rcv_look.specs.declared.status.Status.TheVariants as statuses
use Rattle.rcv_replay.specs.Cutting.{cut_of, bundle_of, journal_of, feeds_before, line_of_end}
use Rattle.rcv_diagnosis.specs.declared.written.Written.{Written}
use Rattle.rcv_diagnosis.specs.declared.written.Written.TheVariants.{Lines, Json}
use Rattle.rcv_diagnosis.specs.Diagnosing.{is_json, IsJsonOf}
use Rattle.rcv_look.specs.Drawing.{IsJournalDrawing}
use Rattle.rcv_look.specs.Outcome.{IsVerdict, IsTextAnswer, IsBundleAnswer, IsJournalAnswer, no_journal_line, malformed_line, illegal_entry_line, illegal_closing_line, illegal, misclosed, drawn, malformed, formed, shapeless, decoded, uncut, long, parted}
use Rattle.rcv_look.specs.Outcome as outcomes
use Rattle.rcv_look.proofs.Making.{Makes, made, widen, refused}

module _ {E : Type 0} (result : Result Output E) where
  -- no separator
  pub uncut_said : (input : List ℕ) (line : ℕ) → cut_of input ≡ None → line ≡ line_of_end input
      → IfOk result (λ output. output.status ≡ statuses.Refused) → IfOk result (λ output. output.bytes.items ≡ no_journal_line line) → Makes (IsJournalAnswer input) result
  uncut_said input line none is status bytes =
      made (IsJournalAnswer input) result statuses.Refused (no_journal_line line) status bytes
      (subst (λ (n : ℕ). IsJournalAnswer input statuses.Refused (no_journal_line n)) (sym is) (uncut none))

  -- a bundle with its text
  pub parted_said : (input : List ℕ) (cut : Cut) (bundle text : List ℕ) (feeds : ℕ) → cut_of input ≡ Some cut → cut.end ≤ 1048576
      → bundle ≡ bundle_of input cut → text ≡ journal_of input cut → feeds ≡ feeds_before input cut
      → Makes (IsBundleAnswer bundle text feeds) result → Makes (IsJournalAnswer input) result
  parted_said input cut bundle text feeds is few same_bundle same_text same_feeds makes =
      widen (IsBundleAnswer bundle text feeds) (IsJournalAnswer input) result
      (λ s b answer. parted cut is few (subst (λ (n : ℕ). IsBundleAnswer (bundle_of input cut) (journal_of input cut) n s b) same_feeds
      (subst (λ (t : List ℕ). IsBundleAnswer (bundle_of input cut) t feeds s b) same_text (subst (λ (u : List ℕ). IsBundleAnswer u text feeds s b) same_bundle answer)))) makes

  -- a bundle that is taken, or refused
  pub taken_said : (bundle text : List ℕ) (session setup : SessionView) (feeds : ℕ) → setup ≡ session → IsTaken bundle session
      → Makes (IsTextAnswer setup text feeds) result → Makes (IsBundleAnswer bundle text feeds) result
  taken_said bundle text session setup feeds same is_taken makes =
      widen (IsTextAnswer setup text feeds) (IsBundleAnswer bundle text feeds) result
      (λ s b answer. outcomes.taken session is_taken (subst (λ (v : SessionView). IsTextAnswer v text feeds s b) same answer)) makes

  pub refused_said : (bundle text : List ℕ) (feeds : ℕ) (error : InputError) → IsRefused bundle error
      → IfOk result (λ output. (refusal : refusals.Refused) × (error ≡ causes.Refused refusal) × (output.status ≡ statuses.Refused) × (output.bytes.items ≡ refusal_line refusal))
      → Makes (IsBundleAnswer bundle text feeds) result
  refused_said bundle text feeds error is said = refused (IsBundleAnswer bundle text feeds) error result said (λ refusal same. outcomes.refused refusal (subst (IsRefused bundle) same is))

  -- lines of the form, or with a wrong one
  pub formed_said : (setup : SessionView) (protocol : Protocol) (text : List ℕ) (feeds : ℕ) (j : JournalView) → protocol ≡ setup.protocol
      → is_json text ≡ false → Spells (bare protocol) text j → Makes (IsVerdict setup j (Lines feeds)) result → Makes (IsTextAnswer setup text feeds) result
  formed_said setup protocol text feeds j same lines spells makes =
      widen (IsVerdict setup j (Lines feeds)) (IsTextAnswer setup text feeds) result
      (λ s b verdict. formed j lines (subst (λ (p : Protocol). Spells (bare p) text j) same spells) verdict) makes

  pub malformed_said : (setup : SessionView) (protocol : Protocol) (text : List ℕ) (feeds number sum : ℕ) → protocol ≡ setup.protocol
      → is_json text ≡ false → IsFirstWrong (bare protocol) text number → sum ≡ feeds + number
      → IfOk result (λ output. output.status ≡ statuses.Refused) → IfOk result (λ output. output.bytes.items ≡ malformed_line sum) → Makes (IsTextAnswer setup text feeds) result
  malformed_said setup protocol text feeds number sum same lines wrong is status bytes =
      made (IsTextAnswer setup text feeds) result statuses.Refused (malformed_line sum) status bytes
      (subst (λ (n : ℕ). IsTextAnswer setup text feeds statuses.Refused (malformed_line n)) (sym is)
      (malformed number lines (subst (λ (p : Protocol). IsFirstWrong (bare p) text number) same wrong)))

  -- JSON that says a journal, or none
  pub decoded_said : (setup : SessionView) (text : List ℕ) (feeds : ℕ) (j : JournalView) → is_json text ≡ true → IsJsonOf setup.protocol text j
      → Makes (IsVerdict setup j Json) result → Makes (IsTextAnswer setup text feeds) result
  decoded_said setup text feeds j json is makes =
      widen (IsVerdict setup j Json) (IsTextAnswer setup text feeds) result (λ s b verdict. decoded j json is verdict) makes

  pub shapeless_said : (setup : SessionView) (text : List ℕ) (feeds sum : ℕ) → is_json text ≡ true
      → ((j : JournalView) → IsJsonOf setup.protocol text j → ⊥) → sum ≡ feeds + 1
      → IfOk result (λ output. output.status ≡ statuses.Refused) → IfOk result (λ output. output.bytes.items ≡ malformed_line sum) → Makes (IsTextAnswer setup text feeds) result
  shapeless_said setup text feeds sum json none is status bytes =
      made (IsTextAnswer setup text feeds) result statuses.Refused (malformed_line sum) status bytes
      (subst (λ (n : ℕ). IsTextAnswer setup text feeds statuses.Refused (malformed_line n)) (sym is) (shapeless json none))

  -- an entry that can't come
  pub illegal_said : (session : SessionView) (j : JournalView) (entries : List Entry) (written : Written) (k : ℕ) → entries ≡ j.entries → IsFirstIllegal (rules_of session) entries k
      → IfOk result (λ output. output.status ≡ statuses.Illegal) → IfOk result (λ output. output.bytes.items ≡ illegal_entry_line written k) → Makes (IsVerdict session j written) result
  illegal_said session j entries written k same wrong status bytes =
      made (IsVerdict session j written) result statuses.Illegal (illegal_entry_line written k) status bytes
      (illegal k (subst (λ (es : List Entry). IsFirstIllegal (rules_of session) es k) same wrong))

  -- a closing line that isn't what the entries leave
  pub misclosed_said : (session : SessionView) (j : JournalView) (entries : List Entry) (written : Written) (k count : ℕ) → entries ≡ j.entries → IsLegal (rules_of session) entries
      → IsFirstWrongClosing (rules_of session) (reading (rules_of session) entries) j.roles j.limited k → count ≡ length entries
      → IfOk result (λ output. output.status ≡ statuses.Illegal) → IfOk result (λ output. output.bytes.items ≡ illegal_closing_line written count k) → Makes (IsVerdict session j written) result
  misclosed_said session j entries written k count same legal wrong is status bytes =
      made (IsVerdict session j written) result statuses.Illegal (illegal_closing_line written count k) status bytes
      (subst (λ (n : ℕ). IsVerdict session j written statuses.Illegal (illegal_closing_line written n k)) (sym (is ∙ ap (λ (es : List Entry). length es) same))
      (misclosed k (subst (IsLegal (rules_of session)) same legal)
      (subst (λ (es : List Entry). IsFirstWrongClosing (rules_of session) (reading (rules_of session) es) j.roles j.limited k) same wrong)))

-- a bundle that is too long
pub long_said : (input : List ℕ) (cut : Cut) (bytes : List ℕ) → cut_of input ≡ Some cut → 1048576 < cut.end → bytes ≡ [] → IsJournalAnswer input statuses.TooLong bytes
long_said input cut bytes is more empty = subst (IsJournalAnswer input statuses.TooLong) (sym empty) (long cut is more)

-- a journal that is drawn
pub drawn_said : (session : SessionView) (j : JournalView) (entries : List Entry) (written : Written) (bytes : List ℕ) → entries ≡ j.entries → IsLegal (rules_of session) entries
    → ClosesRight session entries j.roles j.limited → IsJournalDrawing session entries j.roles bytes → IsVerdict session j written statuses.Drawn bytes
drawn_said session j entries written bytes same legal closes drawing =
    drawn (subst (IsLegal (rules_of session)) same legal) (subst (λ (es : List Entry). ClosesRight session es j.roles j.limited) same closes)
    (subst (λ (es : List Entry). IsJournalDrawing session es j.roles bytes) same drawing)
