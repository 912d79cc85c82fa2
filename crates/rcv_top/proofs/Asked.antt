-- What the words for a run answer is runs of the session that the input is taken as.
use Rattle.std.proofs.Common.{◌≡◌, ℕ, Bool, List, subst, inl, inr, ⊎_elim}
use Rattle.rcv_session.specs.Session.{SessionView}
use Rattle.rcv_input.specs.Input.{IsTaken}
use Rattle.rcv_words.specs.Commands.{CommandView, Run, RunMany}
use Rattle.rcv_top.specs.declared.status.Status.{Status}
use Rattle.rcv_top.specs.Commands.{text_for}
use Rattle.rcv_top.specs.Running.{IsSessionRun}
use Rattle.rcv_top.specs.Many.{AreWritten, IsRunOfMany}
use Rattle.rcv_top.specs.Outcome.{IsAnswer, usage, too_long, answered, refused, made, replayed}
use Rattle.rcv_top.specs.Laws.{HasEnded, OutcomesAreRuns, OutcomesAreManyRuns}
use Rattle.rcv_top.proofs.Asking.{one_command}

run_of : (workers : ℕ) (json : Bool) (input : List ℕ) (status : Status) (bytes : List ℕ) → HasEnded status → IsAnswer (Run workers json) input status bytes
    → (session : SessionView) × IsTaken input session × IsSessionRun workers json session status bytes
run_of workers json input status bytes ended (refused whole refusal first) = absurd (⊎_elim (λ e. cc) (λ e. cc) ended)
run_of workers json input status bytes ended (made session taken makes) = (session, taken, makes)
run_of workers json input status bytes ended (replayed is answer) = absurd cc

pub outcomes_are_runs : OutcomesAreRuns
outcomes_are_runs words input workers json status bytes is ended (usage none) = absurd (none (Run workers json) is)
outcomes_are_runs words input workers json status bytes is ended (too_long source many) = absurd (⊎_elim (λ e. cc) (λ e. cc) ended)
outcomes_are_runs words input workers json status bytes is ended (answered command asked answer) =
    run_of workers json input status bytes ended
    (subst (λ (c : CommandView). IsAnswer c (text_for c input) status bytes) (one_command words command (Run workers json) asked.words_are is) answer)

written_of : (sessions : ℕ) (json : Bool) (session : SessionView) (status : Status) (bytes : List ℕ) → HasEnded status → IsRunOfMany sessions json session status bytes → AreWritten sessions json session status bytes
written_of sessions json session status bytes ended (inl much) = absurd (let refused = much.status_is in ⊎_elim (λ e. cc) (λ e. cc) ended)
written_of sessions json session status bytes ended (inr written) = written

runs_of : (sessions workers : ℕ) (json : Bool) (input : List ℕ) (status : Status) (bytes : List ℕ) → HasEnded status → IsAnswer (RunMany sessions workers json) input status bytes
    → (session : SessionView) × IsTaken input session × AreWritten sessions json session status bytes
runs_of sessions workers json input status bytes ended (refused whole refusal first) = absurd (⊎_elim (λ e. cc) (λ e. cc) ended)
runs_of sessions workers json input status bytes ended (made session taken makes) = (session, taken, written_of sessions json session status bytes ended makes)
runs_of sessions workers json input status bytes ended (replayed is answer) = absurd cc

pub outcomes_are_many_runs : OutcomesAreManyRuns
outcomes_are_many_runs words input sessions workers json status bytes is ended (usage none) = absurd (none (RunMany sessions workers json) is)
outcomes_are_many_runs words input sessions workers json status bytes is ended (too_long source many) = absurd (⊎_elim (λ e. cc) (λ e. cc) ended)
outcomes_are_many_runs words input sessions workers json status bytes is ended (answered command asked answer) =
    runs_of sessions workers json input status bytes ended
    (subst (λ (c : CommandView). IsAnswer c (text_for c input) status bytes) (one_command words command (RunMany sessions workers json) asked.words_are is) answer)
