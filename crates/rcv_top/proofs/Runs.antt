-- What one thread makes of a session is one thing, and the same of two sessions that say the same.
use Rattle.std.proofs.Common.{◌≡◌, ℕ, Bool, true, false, List, length, refl, sym, ◌∙◌, subst}
use Rattle.std.specs.Prelude.{if◌then◌else◌}
use Rattle.rcv_tree.specs.declared.entry.Entry.{Entry}
use Rattle.rcv_model.specs.Text.{body_of}
use Rattle.rcv_model.specs.Journal.{Rules, State, reading, IsLegal}
use Rattle.rcv_model.specs.Final.{IsFinal, IsOneThread}
use Rattle.rcv_model.proofs.OneThread.{one_journal}
use Rattle.rcv_model.proofs.Forms.{proper}
use Rattle.rcv_session.specs.Session.{SessionView, rules_of}
use Rattle.rcv_accept.specs.Accepted.{IsAcceptedProtocol}
use Rattle.rcv_input.specs.Laws.{AreSame}
use Rattle.rcv_journal.specs.Lines.{AreLinesOf}
use Rattle.rcv_journal.proofs.OneText.{one_text}
use Rattle.rcv_journal.proofs.SameText.{same_rules, same_text}
use Rattle.rcv_json.proofs.OneJson.{one_json}
use Rattle.rcv_top.specs.declared.status.Status.{Status}
use Rattle.rcv_top.specs.declared.status.Status.TheVariants.{Completed, Limited}
use Rattle.rcv_jobs.specs.Texts.{IsWritten, EndsWell, IsAloneText}
use Rattle.rcv_top.specs.Running.{CanRun, EndsAs, all_done, at_limit, IsSessionRun}
use Rattle.rcv_top.specs.Many.{OneRun, IsOneRun}
use Rattle.rcv_top.specs.Sharing.{IsJobRun}
use Rattle.rcv_top.proofs.Headlines.{journals_are_legal}
use Rattle.rcv_top.proofs.SameJson.{same_json}

-- a final state ends in one way
same_end : (rules : Rules) (s : State) (a b : Status) → EndsAs rules s a → EndsAs rules s b → a ≡ b
same_end rules s a b (all_done done) (all_done other) = refl
same_end rules s a b (all_done done) (at_limit at) = absurd (at.2 (done at.0 at.1))
same_end rules s a b (at_limit at) (all_done done) = absurd (at.2 (done at.0 at.1))
same_end rules s a b (at_limit at) (at_limit other) = refl

-- ---- of two sessions that say the same

pub rules_same : (s t : SessionView) → AreSame s t → rules_of s ≡ rules_of t
rules_same s t same = same_rules s t same.protocols.role_names same.protocols.bodies same.scripts same.plans

-- what is written of a journal of one is written of it of the other
written_moves : (json : Bool) (s t : SessionView) (journal : List Entry) (bytes : List ℕ) → AreSame s t → rules_of s ≡ rules_of t → IsWritten json s journal bytes → IsWritten json t journal bytes
written_moves true s t journal bytes same rules text = record {
  lines = text.lines;
  are_lines = subst (λ (r : Rules). AreLinesOf r (reading r journal) text.lines) rules text.are_lines;
  is_json = text.is_json ∙ same_json s t same.protocols.role_names same.protocols.bodies journal text.lines;
}
written_moves false s t journal bytes same rules text = record {
  lines = text.lines;
  are_lines = subst (λ (r : Rules). AreLinesOf r (reading r journal) text.lines) rules text.are_lines;
  is_text = text.is_text ∙ same_text s t same.protocols.role_names same.protocols.bodies journal text.lines;
}

-- what a job made of one is what one worker makes of the other
ends_by : (completed : Bool) (rules : Rules) (s : State) → EndsWell completed rules s → EndsAs rules s (if completed then Completed else Limited)
ends_by true rules s done = all_done done
ends_by false rules s at = at_limit at

pub job_moves : (json : Bool) (s t : SessionView) (run : OneRun) → CanRun t → AreSame s t → IsJobRun json s run → IsOneRun json t run
job_moves json s t run can same is = record {
  journal = job.journal;
  is_journal = journals_are_legal t job.journal can (subst (λ (r : Rules). IsLegal r job.journal) rules job.legal) (subst (λ (r : Rules). IsFinal r (reading r job.journal)) rules job.final);
  ends = subst (λ (r : Rules). EndsAs r (reading r job.journal) run.status) rules
      (subst (EndsAs (rules_of s) (reading (rules_of s) job.journal)) (sym is.status_is) (ends_by is.completed (rules_of s) (reading (rules_of s) job.journal) job.ends));
  written = written_moves json s t job.journal run.bytes same rules job.written;
  alone = λ one. subst (λ (r : Rules). IsOneThread r job.journal) rules job.alone;
}
  where
    job : IsAloneText s json is.completed run.bytes
    job = is.text

    rules : rules_of s ≡ rules_of t
    rules = rules_same s t same

-- ---- one thing

one_written : (json : Bool) (session : SessionView) (journal : List Entry) (a b : List ℕ) → IsWritten json session journal a → IsWritten json session journal b → a ≡ b
one_written true session journal a b x y = one_json session journal a b x y
one_written false session journal a b x y = one_text session journal a b x y

-- one thread makes one journal of sessions that say the same
pub one_journal_of : (s t : SessionView) (j k : List Entry) → IsAcceptedProtocol t.protocol → rules_of s ≡ rules_of t → IsOneThread (rules_of s) j → IsOneThread (rules_of t) k → j ≡ k
one_journal_of s t j k lawful rules is other =
    (one_journal (rules_of t) j k).same (proper (body_of t.protocol.body) (length t.protocol.roles) lawful.form).two_ends (subst (λ (r : Rules). IsOneThread r j) rules is) other

-- what decides status and bytes of the run of one thread
pub record OneThreadText (json : Bool) (session : SessionView) (status : Status) (bytes : List ℕ) : Type 0 where
  pub journal : List Entry
  pub alone : IsOneThread (rules_of session) journal
  pub ends : EndsAs (rules_of session) (reading (rules_of session) journal) status
  pub written : IsWritten json session journal bytes

pub text_of : (json : Bool) (session : SessionView) (status : Status) (bytes : List ℕ) → IsSessionRun 1 json session status bytes → OneThreadText json session status bytes
text_of json session status bytes run = record { journal = run.journal; alone = run.alone refl; ends = run.ends; written = run.written }

-- of one session it is that of the other
pub text_moves : (json : Bool) (s t : SessionView) (a : Status) (x : List ℕ) → AreSame s t → IsSessionRun 1 json s a x → OneThreadText json t a x
text_moves json s t a x same run = record {
  journal = run.journal;
  alone = subst (λ (r : Rules). IsOneThread r run.journal) rules (run.alone refl);
  ends = subst (λ (r : Rules). EndsAs r (reading r run.journal) a) rules run.ends;
  written = written_moves json s t run.journal x same rules run.written;
}
  where
    rules : rules_of s ≡ rules_of t
    rules = rules_same s t same

-- two of them say the same
pub one_text_run : (json : Bool) (t : SessionView) (a b : Status) (x y : List ℕ) → IsAcceptedProtocol t.protocol → OneThreadText json t a x → OneThreadText json t b y → (a ≡ b) × (x ≡ y)
one_text_run json t a b x y lawful run other = (same_end (rules_of t) (reading (rules_of t) other.journal) a b ends other.ends, one_written json t other.journal x y written other.written)
  where
    journals : run.journal ≡ other.journal
    journals = one_journal_of t t run.journal other.journal lawful refl run.alone other.alone

    ends : EndsAs (rules_of t) (reading (rules_of t) other.journal) a
    ends = subst (λ (es : List Entry). EndsAs (rules_of t) (reading (rules_of t) es) a) journals run.ends

    written : IsWritten json t other.journal x
    written = subst (λ (es : List Entry). IsWritten json t es x) journals run.written

pub one_run : (json : Bool) (s t : SessionView) (a b : Status) (x y : List ℕ) → IsAcceptedProtocol t.protocol → AreSame s t → IsSessionRun 1 json s a x → IsSessionRun 1 json t b y → (a ≡ b) × (x ≡ y)
one_run json s t a b x y lawful same run other = one_text_run json t a b x y lawful (text_moves json s t a x same run) (text_of json t b y other)
