-- What the top call says, from what it read and wrote.
use Rattle.std.proofs.Common.{◌≡◌, ℕ, Bool, true, false, Some, None, Option, List, [], length, refl, sym, ◌∙◌, ap, subst, ◌⊎◌, inl, inr, ⊎_elim, append-nil, arith}
use Rattle.std.specs.Prelude.{◌<◌, ◌≤◌, Result, Ok, Err, Vec, if◌then◌else◌}
use Rattle.std.specs.List.{list_any}
use Rattle.std.proofs.lemmas.Bool.{cases_lt}
use Rattle.std.specs.declared.alloc.Global.{Global}
use Rattle.std.specs.Io.KnownBytes.{append_known}
use Rattle.rcv_io.specs.declared.fault.ReadError.{ReadError}
use Rattle.rcv_io.specs.declared.fault.ReadError.TheVariants as errors
use Rattle.rcv_io.specs.Causes.{Rose}
use Rattle.rcv_io.specs.Source.{Took, ReadsWhole}
use Rattle.rcv_model.specs.Journal.{Rules, State, reading}
use Rattle.rcv_session.specs.Session.{SessionView, rules_of}
use Rattle.rcv_top.specs.declared.status.Status.{Status}
use Rattle.rcv_top.specs.declared.status.Status.TheVariants as statuses
use Rattle.rcv_words.specs.Commands.{CommandView, Run, RunMany, Check, Project, Table, Gen, Replay, Line, IsCommand, IsNoCommand}
use Rattle.rcv_top.specs.Commands.{AskForSource, text_for}
use Rattle.rcv_top.specs.Inputs.{ReadNothing, HasGot}
use Rattle.rcv_top.specs.Running.{EndsAs, all_done, at_limit}
use Rattle.rcv_top.specs.Many.{OneRun, is_limited, ended_as}
use Rattle.rcv_top.specs.Outcome.{usage_line, most_bytes, Makes, IsAnswer, IsOutcome, usage, too_long, answered as answered_so, refused, made, replayed}
use Rattle.rcv_replay.specs.declared.replayed.Replayed.{Replayed}
use Rattle.rcv_replay.specs.declared.replayed.Replayed.TheVariants as replays
use Rattle.rcv_top.specs.Replaying.{IsSaidOf}
use Rattle.rcv_top.proofs.Asking.{text_given, gen_asks, none_asks}
use Rattle.rcv_top.specs.Calls.{Around, Answers, TellsFault, WroteNothing, source_of, HasTaken, IsInput, TakesTooMuch, WantsMemory, FailsToRead, Says}
use Rattle.rcv_top.specs.Writing.{Wrote}

nothing_more : (o : Option (List ℕ)) → append_known o [] ≡ o
nothing_more None = refl
nothing_more (Some xs) = ap (λ l. Some l) (append-nil xs)

-- ---- an outcome that was written

-- the statuses of answers that were written whole
abbrev IsAnswerStatus : Status → Type 0
IsAnswerStatus statuses.Completed = Unit {0}
IsAnswerStatus statuses.Usage = Unit {0}
IsAnswerStatus statuses.Refused = Unit {0}
IsAnswerStatus statuses.Limited = Unit {0}
IsAnswerStatus statuses.ReadFault = ⊥
IsAnswerStatus statuses.WriteFault = ⊥
IsAnswerStatus statuses.Memory = ⊥
IsAnswerStatus statuses.TooLong = ⊥
IsAnswerStatus statuses.Wrong = Unit {0}

run_answers : (rules : Rules) (s : State) (status : Status) → EndsAs rules s status → IsAnswerStatus status
run_answers rules s status (all_done done) = tt
run_answers rules s status (at_limit at) = tt

-- several sessions end so in all
ended_answers : (runs : List OneRun) → IsAnswerStatus (ended_as runs)
ended_answers runs = go (list_any is_limited runs)
  where
    go : (b : Bool) → IsAnswerStatus (if b then statuses.Limited else statuses.Completed)
    go true = tt
    go false = tt

command_answers : (session : SessionView) (command : CommandView) (status : Status) (bytes : List ℕ) → Makes session command status bytes → IsAnswerStatus status
command_answers session (Run workers json) status bytes makes = run_answers (rules_of session) (reading (rules_of session) makes.journal) status makes.ends
command_answers session (RunMany sessions workers json) status bytes (inl much) = subst IsAnswerStatus (sym much.status_is) tt
command_answers session (RunMany sessions workers json) status bytes (inr fits) = subst IsAnswerStatus (sym fits.many_run.status_is) (ended_answers fits.many_run.runs)
command_answers session Check status bytes makes = subst IsAnswerStatus (sym makes.0) tt
command_answers session Table status bytes makes = subst IsAnswerStatus (sym makes.0) tt
command_answers session (Project name) status bytes (inl makes) = subst IsAnswerStatus (sym makes.2) tt
command_answers session (Project name) status bytes (inr makes) = subst IsAnswerStatus (sym makes.1) tt
command_answers session (Gen number) status bytes makes = subst IsAnswerStatus (sym makes.completed) tt
command_answers session Line status bytes makes = subst IsAnswerStatus (sym makes.completed) tt
command_answers session Replay status bytes makes = absurd makes

said_answers : (x : Replayed) (status : Status) (bytes : List ℕ) → IsSaidOf x status bytes → IsAnswerStatus status
said_answers (replays.Refused r) status bytes is = subst IsAnswerStatus (sym is.0) tt
said_answers (replays.Legal entries limited) status bytes is = subst IsAnswerStatus (sym is.0) tt
said_answers (replays.WrongEntry k) status bytes is = subst IsAnswerStatus (sym is.0) tt
said_answers replays.WrongEnd status bytes is = subst IsAnswerStatus (sym is.0) tt

answer_answers : (command : CommandView) (text : List ℕ) (status : Status) (bytes : List ℕ) → IsAnswer command text status bytes → IsAnswerStatus status
answer_answers command text status bytes (refused whole refusal first) = tt
answer_answers command text status bytes (replayed is answer) = said_answers answer.said status bytes answer.says
answer_answers command text status bytes (made session taken makes) = command_answers session command status bytes makes

answers : (words : List (List ℕ)) (input : List ℕ) (status : Status) (bytes : List ℕ) → (status ≡ statuses.TooLong → ⊥) → IsOutcome words input status bytes → IsAnswerStatus status
answers words input status bytes short (usage none) = tt
answers words input status bytes short (too_long command many) = absurd (short refl)
answers words input status bytes short (answered_so command asked answer) = answer_answers command (text_for command input) status bytes answer

says : (words : List (List ℕ)) (call : Around) (status : Status) → IsAnswerStatus status → Answers words call status → Says words call status
says words call statuses.Completed is said = said
says words call statuses.Usage is said = said
says words call statuses.Refused is said = said
says words call statuses.Limited is said = said
says words call statuses.ReadFault is said = absurd is
says words call statuses.WriteFault is said = absurd is
says words call statuses.Memory is said = absurd is
says words call statuses.TooLong is said = absurd is
says words call statuses.Wrong is said = said

-- what was written whole, or in part
pub answered : (words : List (List ℕ)) (call : Around) (input bytes : List ℕ) (status result : Status) → IsInput words call input → (status ≡ statuses.TooLong → ⊥) → IsOutcome words input status bytes → Wrote call.written_before call.written_after call.write_faults_before call.write_faults_after bytes status result → Says words call result
answered words call input bytes status result is short outcome (inl w) =
    subst (Says words call) (sym w.0) (says words call status (answers words input status bytes short outcome) (record { input = input; bytes = bytes; is_input = is; outcome = outcome; writes = w.1 }))
answered words call input bytes status result is short outcome (inr w) = subst (Says words call) (sym w.0) (record { rose = w.1; input = input; status = status; bytes = bytes; is_input = is; outcome = outcome; writes = w.2 })

-- ---- counts of faults

no_fault : (fault status : Status) → IsAnswerStatus status → (fault ≡ statuses.ReadFault) ⊎ (fault ≡ statuses.WriteFault) → status ≡ fault → ⊥
no_fault fault status is which same = ⊎_elim (λ e. subst IsAnswerStatus (same ∙ e) is) (λ e. subst IsAnswerStatus (same ∙ e) is) which

-- another status, and the count stays
pub stays : (before now : ℕ) (fault result : Status) → now ≡ before → (result ≡ fault → ⊥) → TellsFault before now fault result
stays before now fault result same other = record { later = omega (arith, same); only = λ e. absurd (other e); always = λ more. absurd (omega (arith, same, more)) }

-- the count of the sink, where this status was to be written
pub sink_tells : (before after : Option (List ℕ)) (f g : ℕ) (bytes : List ℕ) (status result : Status) → (status ≡ statuses.WriteFault → ⊥) → f ≤ g → Wrote before after f g bytes status result → TellsFault f g statuses.WriteFault result
sink_tells before after f g bytes status result other later (inl w) = stays f g statuses.WriteFault result w.2 (λ e. other (sym w.0 ∙ e))
sink_tells before after f g bytes status result other later (inr w) = record { later = later; only = λ e. w.1; always = λ more. w.0 }

-- that of the source, which was left, where this status was to be written
pub source_tells : (before after : Option (List ℕ)) (f g before_count now_count : ℕ) (bytes : List ℕ) (status result : Status) → (status ≡ statuses.ReadFault → ⊥) → now_count ≡ before_count → Wrote before after f g bytes status result
    → TellsFault before_count now_count statuses.ReadFault result
source_tells before after f g m n bytes status result other same (inl w) = stays m n statuses.ReadFault result same (λ e. other (sym w.0 ∙ e))
source_tells before after f g m n bytes status result other same (inr w) = stays m n statuses.ReadFault result same (λ e. let f = w.0 in cc)

-- the status of an answer is none of a fault, and doesn't say that the input is too long
pub not_read_fault : (command : CommandView) (text : List ℕ) (status : Status) (bytes : List ℕ) → IsAnswer command text status bytes → status ≡ statuses.ReadFault → ⊥
not_read_fault command text status bytes answer = no_fault statuses.ReadFault status (answer_answers command text status bytes answer) (inl refl)

pub not_write_fault : (command : CommandView) (text : List ℕ) (status : Status) (bytes : List ℕ) → IsAnswer command text status bytes → status ≡ statuses.WriteFault → ⊥
not_write_fault command text status bytes answer = no_fault statuses.WriteFault status (answer_answers command text status bytes answer) (inr refl)

not_too_long : (command : CommandView) (text : List ℕ) (status : Status) (bytes : List ℕ) → IsAnswer command text status bytes → status ≡ statuses.TooLong → ⊥
not_too_long command text status bytes answer same = subst IsAnswerStatus same (answer_answers command text status bytes answer)

-- reading ended without a fault, and the count stays
pub no_read_fault : (m n : ℕ) → m ≤ n → (m < n → ⊥) → n ≡ m
no_read_fault m n later same = ⊎_elim (λ more. absurd (same more)) (λ few. omega (arith, later, few)) (cases_lt m n)

-- ---- what was taken

-- nothing was taken
nothing_taken : (o : Option (List ℕ)) (given : ℕ) → Took o o given given []
nothing_taken None given = record { front = refl; each_counted = omega arith; no_other = omega arith }
nothing_taken (Some xs) given = record { front = refl; each_counted = omega arith; no_other = omega arith }

took_nothing : (call : Around) → ReadNothing (source_of call) → Took call.rest_before call.rest_after call.given_before call.given_after []
took_nothing call unread = subst (λ r. Took call.rest_before r call.given_before call.given_after []) (sym unread.rest) (subst (λ n. Took call.rest_before call.rest_before call.given_before n []) (sym unread.given) (nothing_taken call.rest_before call.given_before))

unread_input : (words : List (List ℕ)) (call : Around) → ReadNothing (source_of call) → HasTaken words call []
unread_input words call unread = record { takes = took_nothing call unread; unread = λ none. unread }

-- the text that the command works on, with what was taken
pub record Got (words : List (List ℕ)) (call : Around) (command : CommandView) (text : List ℕ) : Type 0 where
  pub input : List ℕ
  pub is_input : IsInput words call input
  pub is_text : text_for command input ≡ text

abbrev TextResult : Type 0
TextResult = Result (Vec ℕ Global) ReadError

pub got_text : (words : List (List ℕ)) (call : Around) (command : CommandView) (v : Vec ℕ Global) → IsCommand words command → HasGot command (source_of call) (Ok v) → Got words call command v.items
got_text words call command v is (inl (works, read)) = record {
  input = read.whole.taken;
  is_input = record {
    taken = record { takes = read.whole.took; unread = λ none. absurd (none (command, works, is)) };
    whole = λ asks. read.end;
  };
  is_text = text_given command read.whole.taken works ∙ sym read.whole.bytes;
}
got_text words call command v is (inr (number, gen, done)) = record {
  input = [];
  is_input = record {
    taken = unread_input words call done.unread;
    whole = λ asks. absurd (gen_asks words command number is gen asks);
  };
  is_text = ap (λ (c : CommandView). text_for c []) gen ∙ sym done.text;
}

-- another answer than that too much was taken: it wasn't
within : (call : Around) (r : TextResult) (reads : ReadsWhole call.rest_before call.rest_after call.given_before call.given_after most_bytes r) → (r ≡ Err errors.TooLong → ⊥) → length reads.taken ≤ most_bytes
within call r reads other = ⊎_elim (λ many. absurd (other (reads.too_long.1 many))) (λ few. few) (cases_lt most_bytes (length reads.taken))

-- ---- what each status says

-- no command: nothing is read
pub usage_said : (words : List (List ℕ)) (call : Around) (result : Status) → IsNoCommand words → ReadNothing (source_of call) → Wrote call.written_before call.written_after call.write_faults_before call.write_faults_after usage_line statuses.Usage result → Says words call result
usage_said words call result none unread wrote = answered words call [] usage_line statuses.Usage result
    (record { taken = unread_input words call unread; whole = λ asks. absurd (none_asks words none asks) })
    (λ same. cc) (usage none) wrote

-- an answer
outcome_of : (words : List (List ℕ)) (call : Around) (command : CommandView) (text bytes : List ℕ) (status : Status) → IsCommand words command → (got : Got words call command text) → length text ≤ most_bytes → IsAnswer command text status bytes → IsOutcome words got.input status bytes
outcome_of words call command text bytes status is got short answer = answered_so command
    (record { words_are = is; short = subst (λ (t : List ℕ). length t ≤ most_bytes) (sym got.is_text) short })
    (subst (λ (t : List ℕ). IsAnswer command t status bytes) (sym got.is_text) answer)

pub answer_said : (words : List (List ℕ)) (call : Around) (command : CommandView) (v : Vec ℕ Global) (bytes : List ℕ) (status result : Status) → IsCommand words command → HasGot command (source_of call) (Ok v) → length v.items ≤ most_bytes
    → IsAnswer command v.items status bytes → Wrote call.written_before call.written_after call.write_faults_before call.write_faults_after bytes status result → Says words call result
answer_said words call command v bytes status result is got short answer wrote =
    let text = got_text words call command v is got in
    answered words call text.input bytes status result text.is_input (not_too_long command v.items status bytes answer) (outcome_of words call command v.items bytes status is text short answer) wrote

-- too much was taken
pub too_much : (words : List (List ℕ)) (call : Around) (command : CommandView) (e : ReadError) → IsCommand words command → HasGot command (source_of call) (Err e) → e ≡ errors.TooLong → WroteNothing call → TakesTooMuch words call
too_much words call command e is (inl (works, read)) why nothing =
    let many = read.whole.too_long.0 (ap (λ (x : ReadError). Err x) why) in
    record { command = (command, works, is); input = read.whole.taken; takes = read.whole.took; outcome = too_long (command, works, is) many; writes = nothing }
too_much words call command e is (inr (number, gen, done)) why nothing = absurd (let memory = done.error in cc)

-- memory was wanted, while the words or the input were read or behind it
pub wants_at_once : (words : List (List ℕ)) (call : Around) → ReadNothing (source_of call) → WroteNothing call → WantsMemory words call
wants_at_once words call unread nothing = record { input = []; taken = unread_input words call unread; short = omega arith; writes = nothing }

pub wants_memory : (words : List (List ℕ)) (call : Around) (command : CommandView) (r : TextResult) → IsCommand words command → HasGot command (source_of call) r → (r ≡ Err errors.TooLong → ⊥) → WroteNothing call → WantsMemory words call
wants_memory words call command r is (inl (works, read)) other nothing = record {
  input = read.whole.taken;
  taken = record { takes = read.whole.took; unread = λ none. absurd (none (command, works, is)) };
  short = within call r read.whole other;
  writes = nothing;
}
wants_memory words call command r is (inr (number, gen, done)) other nothing = wants_at_once words call done.unread nothing

-- the source failed
pub fails_to_read : (words : List (List ℕ)) (call : Around) (command : CommandView) (e : ReadError) → IsCommand words command → HasGot command (source_of call) (Err e) → e ≡ errors.ReadFault → Rose call.read_faults_before call.read_faults_after → WroteNothing call → FailsToRead words call
fails_to_read words call command e is (inl (works, read)) why rose nothing = record {
  rose = rose;
  command = (command, works, is);
  input = read.whole.taken;
  takes = read.whole.took;
  short = within call (Err e) read.whole (λ same. absurd (cc));
  writes = nothing;
}
fails_to_read words call command e is (inr (number, gen, done)) why rose nothing = absurd (let memory = done.error in cc)
