-- What a command makes of a session is the answer to its input.
use Rattle.std.proofs.Common.{◌≡◌, ℕ, Bool, List, [], sym, ◌∙◌, ap, subst}
use Rattle.std.specs.Prelude.{Result, Ok, Err, IfOk}
use Rattle.rcv_tree.specs.declared.entry.Entry.{Entry}
use Rattle.rcv_model.specs.Final.{IsOneThread}
use Rattle.rcv_model.proofs.OneThread.{one_journal}
use Rattle.rcv_session.specs.Session.{SessionView, rules_of}
use Rattle.rcv_input.specs.declared.refused.Refused as refusals
use Rattle.rcv_input.specs.Input.{IsTaken}
use Rattle.rcv_input.specs.declared.refused.InputError.{InputError}
use Rattle.rcv_input.specs.declared.refused.InputError.TheVariants as causes
use Rattle.rcv_input.specs.Refusals.{IsRefused}
use Rattle.rcv_input.specs.Line.{refusal_line}
use Rattle.rcv_core.specs.Book.{BookView, EndsAlone}
use Rattle.rcv_super.specs.Super.{SuperView, new_session}
use Rattle.rcv_words.specs.Commands.{CommandView}
use Rattle.rcv_top.specs.Finishing.{EndsSo, FinishesAs}
use Rattle.rcv_top.specs.declared.status.Status.TheVariants as statuses
use Rattle.rcv_top.specs.declared.status.Status.{Status}
use Rattle.rcv_top.specs.declared.output.Output.{Output}
use Rattle.rcv_top.specs.Running.{CanRun, IsSessionRun}
use Rattle.rcv_top.specs.Generating.{IsSummaryOf, IsSummaryRun}
use Rattle.rcv_top.specs.Lining.{IsLineOf, IsLineRun}
use Rattle.rcv_replay.specs.declared.replayed.Replayed.{Replayed}
use Rattle.rcv_replay.specs.Replaying.{IsReplay}
use Rattle.rcv_top.specs.Commands.{TakesWhole}
use Rattle.rcv_top.specs.Replaying.{IsSaidOf, IsReplayAnswer}
use Rattle.rcv_top.specs.Outcome.{IsAnswer, Makes, refused, made}
use Rattle.rcv_top.proofs.Headlines.{journals_are_legal}

-- ---- a book that one thread ran to its end

pub record Ended (session : SessionView) (book : BookView) : Type 0 where
  pub journal : List Entry
  pub is : book ≡ record { setup = session; entries = journal }
  pub alone : IsOneThread (rules_of session) journal

pub ended : (session : SessionView) (first last : BookView) → first ≡ record { setup = session; entries = [] } → EndsAlone first last → Ended session last
ended session first last empty ends = record { journal = here.more; is = here.added; alone = here.alone }
  where
    here : EndsAlone (record { setup = session; entries = [] }) last
    here = subst (λ (b : BookView). EndsAlone b last) empty ends

-- what workers brought to its end
pub run_of : (workers : ℕ) (json : Bool) (session : SessionView) (first : BookView) (status : Status) (bytes : List ℕ) → CanRun session → first ≡ record { setup = session; entries = [] } → FinishesAs workers json first status bytes → IsSessionRun workers json session status bytes
run_of workers json session first status bytes can empty done = record {
  journal = done.last.entries;
  is_journal = journals_are_legal session done.last.entries can held.legal held.final;
  ends = held.ends;
  written = held.written;
  alone = λ one.
      let e = ended session first done.last empty (done.finished.alone one) in
      subst (IsOneThread (rules_of session)) (sym (ap (λ (b : BookView). b.entries) e.is)) e.alone;
}
  where
    same : done.last.setup ≡ session
    same = ap (λ (b : BookView). b.setup) done.finished.added ∙ ap (λ (b : BookView). b.setup) empty

    held : EndsSo json session done.last.entries status bytes
    held = subst (λ (s : SessionView). EndsSo json s done.last.entries status bytes) same done.ends_so

-- the same of a session's book
pub ran : (workers : ℕ) (json : Bool) (session : SessionView) (first : SuperView) → CanRun session → first ≡ new_session session
    → (status : Status) (bytes : List ℕ) → FinishesAs workers json first.book status bytes → IsSessionRun workers json session status bytes
ran workers json session first can empty status bytes = run_of workers json session first.book status bytes can (ap (λ (v : SuperView). v.book) empty)

-- the summary of what a book alone brought to its end
pub summed : (number : ℕ) (session : SessionView) (first last : BookView) (status : Status) (bytes : List ℕ) → CanRun session → first ≡ record { setup = session; entries = [] } → EndsAlone first last
    → IsSummaryOf last.setup last.entries number bytes → status ≡ statuses.Completed → IsSummaryRun number session status bytes
summed number session first last status bytes can empty ends summary completed =
    let e = ended session first last empty ends in
    let law = one_journal (rules_of session) e.journal e.journal in
    record {
      journal = e.journal;
      is_journal = journals_are_legal session e.journal can (law.legal e.alone) (law.final e.alone);
      alone = e.alone;
      summary = subst (λ (b : BookView). IsSummaryOf b.setup b.entries number bytes) e.is summary;
      completed = completed;
    }

-- the stable line behind the journal of such a book
pub lined : (session : SessionView) (first last : BookView) (status : Status) (bytes : List ℕ) → CanRun session → first ≡ record { setup = session; entries = [] } → EndsAlone first last
    → IsLineOf last.setup last.entries bytes → status ≡ statuses.Completed → IsLineRun session status bytes
lined session first last status bytes can empty ends line completed =
    let e = ended session first last empty ends in
    let law = one_journal (rules_of session) e.journal e.journal in
    record {
      journal = e.journal;
      is_journal = journals_are_legal session e.journal can (law.legal e.alone) (law.final e.alone);
      alone = e.alone;
      line = subst (λ (b : BookView). IsLineOf b.setup b.entries bytes) e.is line;
      completed = completed;
    }

-- ---- the answers

pub made_of : {E : Type 0} (text : List ℕ) (command : CommandView) (session : SessionView) (result : Result Output E) → IsTaken text session
    → IfOk result (λ output. Makes session command output.status output.bytes.items)
    → IfOk result (λ output. IsAnswer command text output.status output.bytes.items)
made_of text command session (Err e) taken makes = tt
made_of text command session (Ok output) taken makes = made session taken makes

pub refused_of : {E : Type 0} (text : List ℕ) (command : CommandView) (error : InputError) (result : Result Output E) → TakesWhole command → IsRefused text error
    → IfOk result (λ output. (refusal : refusals.Refused) × (error ≡ causes.Refused refusal) × (output.status ≡ statuses.Refused) × (output.bytes.items ≡ refusal_line refusal))
    → IfOk result (λ output. IsAnswer command text output.status output.bytes.items)
refused_of text command error (Err e) whole is said = tt
refused_of text command error (Ok output) whole is said =
    subst (λ (s : Status). IsAnswer command text s output.bytes.items) (sym said.2)
    (subst (λ (b : List ℕ). IsAnswer command text statuses.Refused b) (sym said.3)
    (refused whole said.0 (subst (IsRefused text) said.1 is)))

-- what is said of a journal, in its line
pub replay_said : {E : Type 0} (input : List ℕ) (said : Replayed) (result : Result Output E) → IsReplay input said
    → IfOk result (λ output. IsSaidOf said output.status output.bytes.items)
    → IfOk result (λ output. IsReplayAnswer input output.status output.bytes.items)
replay_said input said (Err e) is says = tt
replay_said input said (Ok output) is says = record { said = said; is_said = is; says = says }
