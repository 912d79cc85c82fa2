-- What the top call says, from what it read and wrote.
use Rattle.std.proofs.Common.{◌≡◌, ℕ, Some, None, Option, List, [], length, refl, sym, ◌∙◌, ap, subst, inl, inr, ⊎_elim, append-nil, arith}
use Rattle.std.specs.Prelude.{◌<◌, ◌≤◌, Ok, Err, Vec}
use Rattle.std.proofs.lemmas.Bool.{cases_lt}
use Rattle.std.specs.declared.alloc.Global.{Global}
use Rattle.std.specs.Io.KnownBytes.{append_known}
use Rattle.rcv_io.specs.declared.fault.ReadError.{ReadError}
use Rattle.rcv_io.specs.declared.fault.ReadError.TheVariants as errors
use Rattle.rcv_io.specs.Causes.{Rose}
use Rattle.rcv_io.specs.Source.{Took, ReadsWhole}
use Rattle.rcv_look.specs.declared.status.Status.{Status}
use Rattle.rcv_look.specs.declared.status.Status.TheVariants as statuses
use Rattle.rcv_look.specs.Commands.{CommandView, IsCommand, IsNoCommand}
use Rattle.rcv_look.specs.Asking.{most_for}
use Rattle.rcv_look.specs.Inputs.{Reading, ReadNothing, HasGot, InputResult}
use Rattle.rcv_look.specs.Outcome.{usage_line, IsAnswer, IsOutcome, usage, too_long, answered as answered_so}
use Rattle.rcv_look.specs.Calls.{Around, Answers, TellsFault, WroteNothing, HasTaken, IsInput, IsWithinMost, TakesTooMuch, WantsMemory, FailsToRead, Says, Takes}
use Rattle.rcv_look.specs.Writing.{Wrote}
use Rattle.rcv_look.proofs.Asking.{one_command, asks, asks_not, none_asks}
use Rattle.rcv_look.proofs.Ending.{EndsSo, answer_ends}

nothing_more : (o : Option (List ℕ)) → append_known o [] ≡ o
nothing_more None = refl
nothing_more (Some xs) = ap (λ l. Some l) (append-nil xs)

-- ---- an outcome that was written

-- what was written whole, or in part
pub answered : (words : List (List ℕ)) (call : Around) (input bytes : List ℕ) (status result : Status) → IsInput words call input → EndsSo status bytes → IsOutcome words input status bytes
    → Wrote call.written_before call.written_after call.write_faults_before call.write_faults_after bytes status result → Says words call result
answered words call input bytes status result is ends outcome (inl w) = subst (Says words call) (sym w.0) (go status ends outcome)
  where
    whole : (s : Status) → IsOutcome words input s bytes → Answers words call s
    whole s outcome = record { input = input; bytes = bytes; is_input = is; outcome = outcome; writes = w.1 }

    go : (s : Status) → EndsSo s bytes → IsOutcome words input s bytes → Says words call s
    go statuses.Drawn ends outcome = whole statuses.Drawn outcome
    go statuses.Usage ends outcome = whole statuses.Usage outcome
    go statuses.Refused ends outcome = whole statuses.Refused outcome
    go statuses.Illegal ends outcome = whole statuses.Illegal outcome
    go statuses.TooLong ends outcome = record {
      input = input;
      taken = is.taken;
      outcome = subst (IsOutcome words input statuses.TooLong) ends outcome;
      writes = record { written = w.1 ∙ ap (append_known call.written_before) ends ∙ nothing_more call.written_before; faults = w.2 };
    }
    go statuses.ReadFault ends outcome = absurd ends
    go statuses.WriteFault ends outcome = absurd ends
    go statuses.Memory ends outcome = absurd ends
answered words call input bytes status result is ends outcome (inr w) =
    subst (Says words call) (sym w.0) (record { rose = w.1; input = input; status = status; bytes = bytes; is_input = is; outcome = outcome; writes = w.2 })

-- ---- counts of faults

-- an answer's status is none of a fault
pub not_read_fault : (status : Status) (bytes : List ℕ) → EndsSo status bytes → status ≡ statuses.ReadFault → ⊥
not_read_fault status bytes ends same = subst (λ (s : Status). EndsSo s bytes) same ends

pub not_write_fault : (status : Status) (bytes : List ℕ) → EndsSo status bytes → status ≡ statuses.WriteFault → ⊥
not_write_fault status bytes ends same = subst (λ (s : Status). EndsSo s bytes) same ends

-- another status, and the count stays
pub stays : (before now : ℕ) (fault result : Status) → now ≡ before → (result ≡ fault → ⊥) → TellsFault before now fault result
stays before now fault result same other = record { later = omega (arith, same); only = λ e. absurd (other e); always = λ more. absurd (omega (arith, same, more)) }

-- the count of the sink, where this status was to be written
pub sink_tells : (before after : Option (List ℕ)) (f g : ℕ) (bytes : List ℕ) (status result : Status) → (status ≡ statuses.WriteFault → ⊥) → f ≤ g → Wrote before after f g bytes status result → TellsFault f g statuses.WriteFault result
sink_tells before after f g bytes status result other later (inl w) = stays f g statuses.WriteFault result w.2 (λ e. other (sym w.0 ∙ e))
sink_tells before after f g bytes status result other later (inr w) = record { later = later; only = λ e. w.1; always = λ more. w.0 }

-- that of the source, which was left, where this status was to be written
pub source_tells : (before after : Option (List ℕ)) (f g before_count now_count : ℕ) (bytes : List ℕ) (status result : Status) → (status ≡ statuses.ReadFault → ⊥) → now_count ≡ before_count → Wrote before after f g bytes status result
    → TellsFault before_count now_count statuses.ReadFault result
source_tells before after f g m n bytes status result other same (inl w) = stays m n statuses.ReadFault result same (λ e. other (sym w.0 ∙ e))
source_tells before after f g m n bytes status result other same (inr w) = stays m n statuses.ReadFault result same (λ e. let f = w.0 in cc)

-- reading ended without a fault, and the count stays
pub no_read_fault : (m n : ℕ) → m ≤ n → (m < n → ⊥) → n ≡ m
no_read_fault m n later same = ⊎_elim (λ more. absurd (same more)) (λ few. omega (arith, later, few)) (cases_lt m n)

-- ---- what was taken

nothing_taken : (o : Option (List ℕ)) (given : ℕ) → Took o o given given []
nothing_taken None given = record { front = refl; each_counted = omega arith; no_other = omega arith }
nothing_taken (Some xs) given = record { front = refl; each_counted = omega arith; no_other = omega arith }

took_nothing : (source : Reading) → ReadNothing source → Takes source []
took_nothing source unread = subst (λ r. Took source.rest_before r source.given_before source.given_after []) (sym unread.rest) (subst (λ n. Took source.rest_before source.rest_before source.given_before n []) (sym unread.given) (nothing_taken source.rest_before source.given_before))

unread_input : (words : List (List ℕ)) (call : Around) (input : List ℕ) → ReadNothing call.source → input ≡ [] → HasTaken words call input
unread_input words call input unread empty = record { takes = subst (Takes call.source) (sym empty) (took_nothing call.source unread); unread = λ none. unread }

-- the input of a command that got it
got_input : (words : List (List ℕ)) (call : Around) (command : CommandView) (v : Vec ℕ Global) → IsCommand words command → HasGot command call.source (Ok v) → IsInput words call v.items
got_input words call command v is (inl (reads, read)) = record {
  taken = record { takes = subst (Takes call.source) (sym read.whole.bytes) read.whole.took; unread = λ none. absurd (none (asks words command is reads)) };
  whole = λ asked. read.end;
}
got_input words call command v is (inr (not_read, none)) = record {
  taken = unread_input words call v.items none.unread none.empty;
  whole = λ asked. absurd (asks_not words command is not_read asked);
}

-- another answer than that too much was taken: it wasn't
within : (words : List (List ℕ)) (call : Around) (command : CommandView) (r : InputResult) → IsCommand words command
    → (reads : ReadsWhole call.source.rest_before call.source.rest_after call.source.given_before call.source.given_after (most_for command) r) → (r ≡ Err errors.TooLong → ⊥) → IsWithinMost words reads.taken
within words call command r is reads other d is_d =
    subst (λ (c : CommandView). length reads.taken ≤ most_for c) (one_command words command d is is_d)
    (⊎_elim (λ many. absurd (other (reads.too_long.1 many))) (λ few. few) (cases_lt (most_for command) (length reads.taken)))

-- ---- what each status says

-- no command: nothing is read
pub usage_said : (words : List (List ℕ)) (call : Around) (result : Status) → IsNoCommand words → ReadNothing call.source → Wrote call.written_before call.written_after call.write_faults_before call.write_faults_after usage_line statuses.Usage result → Says words call result
usage_said words call result none unread wrote = answered words call [] usage_line statuses.Usage result
    (record { taken = unread_input words call [] unread refl; whole = λ asked. absurd (none_asks words none asked) })
    tt (usage none) wrote

-- an answer
pub answer_said : (words : List (List ℕ)) (call : Around) (command : CommandView) (v : Vec ℕ Global) (bytes : List ℕ) (status result : Status) → IsCommand words command → HasGot command call.source (Ok v) → length v.items ≤ most_for command
    → IsAnswer command v.items status bytes → Wrote call.written_before call.written_after call.write_faults_before call.write_faults_after bytes status result → Says words call result
answer_said words call command v bytes status result is got short answer wrote =
    answered words call v.items bytes status result (got_input words call command v is got) (answer_ends command v.items status bytes answer)
    (answered_so command (record { words_are = is; short = short }) answer) wrote

-- too much was taken
pub too_much : (words : List (List ℕ)) (call : Around) (command : CommandView) (e : ReadError) → IsCommand words command → HasGot command call.source (Err e) → e ≡ errors.TooLong → WroteNothing call → TakesTooMuch words call
too_much words call command e is (inl (reads, read)) why nothing =
    let many = read.whole.too_long.0 (ap (λ (x : ReadError). Err x) why) in
    record {
      input = read.whole.taken;
      taken = record { takes = read.whole.took; unread = λ none. absurd (none (asks words command is reads)) };
      outcome = too_long command (record { words_are = is; reads = reads }) many;
      writes = nothing;
    }
too_much words call command e is (inr (not_read, none)) why nothing = absurd none.given

-- memory was wanted, while the words or the input were read or behind it
pub wants_at_once : (words : List (List ℕ)) (call : Around) → ReadNothing call.source → WroteNothing call → WantsMemory words call
wants_at_once words call unread nothing = record { input = []; taken = unread_input words call [] unread refl; short = λ command is. omega arith; writes = nothing }

pub wants_memory : (words : List (List ℕ)) (call : Around) (command : CommandView) (r : InputResult) → IsCommand words command → HasGot command call.source r → (r ≡ Err errors.TooLong → ⊥) → WroteNothing call → WantsMemory words call
wants_memory words call command r is (inl (reads, read)) other nothing = record {
  input = read.whole.taken;
  taken = record { takes = read.whole.took; unread = λ none. absurd (none (asks words command is reads)) };
  short = within words call command r is read.whole other;
  writes = nothing;
}
wants_memory words call command r is (inr (not_read, none)) other nothing = wants_at_once words call none.unread nothing

-- the source failed
pub fails_to_read : (words : List (List ℕ)) (call : Around) (command : CommandView) (e : ReadError) → IsCommand words command → HasGot command call.source (Err e) → e ≡ errors.ReadFault → Rose call.source.faults_before call.source.faults_after → WroteNothing call → FailsToRead words call
fails_to_read words call command e is (inl (reads, read)) why rose nothing = record {
  rose = rose;
  asked = asks words command is reads;
  input = read.whole.taken;
  takes = read.whole.took;
  short = within words call command (Err e) is read.whole (λ same. absurd (cc));
  writes = nothing;
}
fails_to_read words call command e is (inr (not_read, none)) why rose nothing = absurd none.given
