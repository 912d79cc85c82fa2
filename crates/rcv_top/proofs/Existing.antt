-- All words and inputs have an outcome.
use Rattle.std.proofs.Common.{◌≡◌, ℕ, ◌≤◌, Bool, Option, Some, None, List, [], length, refl, sym, subst, inl, inr, ⊎_elim, ◌⊎◌, arith}
use Rattle.std.proofs.lemmas.Bool.{cases_lt}
use Rattle.rcv_tree.specs.Names.{place_of}
use Rattle.rcv_tree.proofs.Naming.{is_named}
use Rattle.rcv_session.specs.Session.{SessionView}
use Rattle.rcv_input.specs.Input.{IsTaken}
use Rattle.rcv_input.specs.Line.{refusal_line}
use Rattle.rcv_input.specs.declared.refused.Refused.TheVariants.{NoRole}
use Rattle.rcv_input.proofs.Once.{one_answer}
use Rattle.rcv_printer.specs.CanonicalText.{canonical}
use Rattle.rcv_top.specs.declared.status.Status.{Status}
use Rattle.rcv_top.specs.declared.status.Status.TheVariants.{Completed, Usage, Refused, TooLong, Wrong}
use Rattle.rcv_words.specs.Commands.{CommandView, Run, RunMany, Check, Project, Table, Gen, Replay, Line, IsCommand, IsWithin}
use Rattle.rcv_words.proofs.Deciding.{command_or_none}
use Rattle.rcv_top.specs.Commands.{WorksOnSource, TakesWhole, text_for}
use Rattle.rcv_gen.proofs.Lengths.{generated_fits}
use Rattle.rcv_top.specs.Running.{IsSessionRun}
use Rattle.rcv_top.specs.Outcome.{most_bytes, usage_line, IsAnswer, Makes, usage, too_long, answered, refused, made, replayed}
use Rattle.rcv_replay.specs.declared.replayed.Replayed.{Replayed}
use Rattle.rcv_replay.specs.declared.replayed.Replayed.TheVariants as replays
use Rattle.rcv_replay.proofs.Existing.{replays_exist}
use Rattle.rcv_replay.specs.Lines.{legal_line, wrong_line, wrong_end_line}
use Rattle.rcv_top.specs.Replaying.{IsSaidOf}
use Rattle.rcv_top.specs.Laws.{HasOutcome, OutcomesExist}
use Rattle.rcv_top.proofs.Asking.{source_or_gen, text_given}
use Rattle.rcv_top.proofs.Ending.{sessions_end, summary_exists, line_exists}
use Rattle.rcv_top.proofs.ManyExist.{many_some}
use Rattle.rcv_top.proofs.RoleTexts.{text_exists}
use Rattle.rcv_top.proofs.TableTexts.{table_exists}

-- ---- what a command makes

-- the journal of one thread is one that any number of workers may make
run_some : (workers : ℕ) (json : Bool) (session : SessionView) → (status : Status) × (bytes : List ℕ) × IsSessionRun 1 json session status bytes → (status : Status) × (bytes : List ℕ) × IsSessionRun workers json session status bytes
run_some workers json session run = (run.0, run.1, record { journal = run.2.journal; is_journal = run.2.is_journal; ends = run.2.ends; written = run.2.written; alone = λ one. run.2.alone refl })

makes_some : (input : List ℕ) (session : SessionView) (command : CommandView) → TakesWhole command → IsTaken input session → (status : Status) × (bytes : List ℕ) × Makes session command status bytes
makes_some input session (Run workers json) whole taken = run_some workers json session (sessions_end json input session taken)
makes_some input session (RunMany sessions workers json) whole taken = many_some sessions json input session taken
makes_some input session (Gen number) whole taken = let text = summary_exists number input session taken in (Completed, text.0, text.1)
makes_some input session Check whole taken = (Completed, canonical session.protocol, (refl, refl))
makes_some input session Line whole taken = let text = line_exists input session taken in (Completed, text.0, text.1)
makes_some input session Replay whole taken = absurd whole
makes_some input session Table whole taken = let text = table_exists session.protocol taken.protocol.accepted in (Completed, text.0, (refl, text.1))
makes_some input session (Project name) whole taken = go (place_of session.protocol.roles name) refl
  where
    go : (place : Option ℕ) → place_of session.protocol.roles name ≡ place → (status : Status) × (bytes : List ℕ) × Makes session (Project name) status bytes
    go None at = (Refused, refusal_line NoRole, inr (at, refl, refl))
    go (Some role) at =
        let text = text_exists session.protocol role taken.protocol.accepted (is_named session.protocol.roles name role at).0 in
        (Completed, text.0, inl (role, at, refl, text.1))

-- it takes its whole text as a bundle, or it is `replay`
whole_or_replay : (c : CommandView) → TakesWhole c ⊎ (c ≡ Replay)
whole_or_replay (Run n json) = inl tt
whole_or_replay (RunMany k n json) = inl tt
whole_or_replay Check = inl tt
whole_or_replay (Project name) = inl tt
whole_or_replay Table = inl tt
whole_or_replay (Gen n) = inl tt
whole_or_replay Line = inl tt
whole_or_replay Replay = inr refl

said_some : (x : Replayed) → (status : Status) × (bytes : List ℕ) × IsSaidOf x status bytes
said_some (replays.Refused r) = (Refused, refusal_line r, (refl, refl))
said_some (replays.Legal entries limited) = (Completed, legal_line entries limited, (refl, refl))
said_some (replays.WrongEntry k) = (Wrong, wrong_line k, (refl, refl))
said_some replays.WrongEnd = (Wrong, wrong_end_line, (refl, refl))

answer_some : (command : CommandView) (text : List ℕ) → length text ≤ most_bytes → (status : Status) × (bytes : List ℕ) × IsAnswer command text status bytes
answer_some command text short = ⊎_elim
    (λ whole. ⊎_elim
    (λ t. let m = makes_some text t.0 command whole t.1 in (m.0, m.1, made t.0 t.1 m.2))
    (λ r. (Refused, refusal_line r.0, refused whole r.0 r.1))
    (one_answer.answered text (omega (arith, short))))
    (λ is. let said = replays_exist text (omega (arith, short)) in
    let told = said_some said.0 in
    (told.0, told.1, replayed is (record { said = said.0; is_said = said.1; says = told.2 })))
    (whole_or_replay command)

asked_some : (words : List (List ℕ)) (input : List ℕ) (command : CommandView) → IsCommand words command → length (text_for command input) ≤ most_bytes → HasOutcome words input
asked_some words input command is short =
    let answer = answer_some command (text_for command input) short in
    (answer.0, answer.1, answered command (record { words_are = is; short = short }) answer.2)

command_some : (words : List (List ℕ)) (input : List ℕ) (command : CommandView) → IsCommand words command → HasOutcome words input
command_some words input command is = ⊎_elim from_source generates (source_or_gen command)
  where
    from_source : WorksOnSource command → HasOutcome words input
    from_source works = ⊎_elim
        (λ many. (TooLong, [], too_long (command, works, is) many))
        (λ few. asked_some words input command is (subst (λ (t : List ℕ). length t ≤ most_bytes) (sym (text_given command input works)) few))
        (cases_lt most_bytes (length input))

    generates : (number : ℕ) × (command ≡ Gen number) → HasOutcome words input
    generates (number, gen) =
        let within : number ≤ 4000 = subst IsWithin gen is.2 in
        asked_some words input command is (subst (λ (c : CommandView). length (text_for c input) ≤ most_bytes) (sym gen) (generated_fits number within))

pub outcomes_exist : OutcomesExist
outcomes_exist words input = ⊎_elim
    (λ command. command_some words input command.0 command.1)
    (λ none. (Usage, usage_line, usage none))
    (command_or_none words)
