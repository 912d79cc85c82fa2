-- What is said where failures are told.
use Rattle.std.proofs.Common.{◌≡◌, ℕ, ◌<◌, ◌≤◌, true, cond, List, [], ◌∷◌, ◌++◌, length, sym, ◌∙◌, ap, subst, arith}
use Rattle.std.specs.Prelude.{Result, OnOk, slice_index}
use Rattle.std.specs.List.{filter, range_with_len}
use Rattle.rcv_tree.specs.Bits.{has_bit}
use Rattle.rcv_tree.specs.declared.entry.Entry.TheVariants.{Crash}
use Rattle.rcv_tree.specs.declared.protocol.Protocol.{Protocol}
use Rattle.rcv_guide.specs.declared.recovery.Recovery.{Recovery}
use Rattle.rcv_guide.specs.Guide.{HasMemory, IsFailureOf, recovery_entry}
use Rattle.rcv_guide.proofs.Memories.{on_success}
use Rattle.rcv_dialogue.specs.declared.answer.Answer.{Answer}
use Rattle.rcv_dialogue.specs.declared.answer.Answer.TheVariants as answer
use Rattle.rcv_dialogue.specs.declared.answer.Cause.TheVariants as cause
use Rattle.rcv_dialogue.specs.declared.answer.Undone.{Undone}
use Rattle.rcv_dialogue.specs.declared.few.Failed.{Failed}
use Rattle.rcv_dialogue.specs.declared.line.Line.TheVariants as line
use Rattle.rcv_dialogue.specs.declared.line.ToldRecovery.{ToldRecovery}
use Rattle.rcv_dialogue.specs.Answers.{answer_text}
use Rattle.rcv_guided.specs.declared.taken.Taken.{Taken}
use Rattle.rcv_guided.specs.Session.{SessionView, roles_in, incarnation_of}
use Rattle.rcv_guided.specs.Histories.{GoesOnBy}
use Rattle.rcv_guided.specs.Hearing.{accepted_of}
use Rattle.rcv_guided.specs.Counts.{made_of, roles_where, with_counts}
use Rattle.rcv_guided.specs.Failures.{HaveSaved, is_down_in, entries_of, GoesBack, FailsOnce, is_concerned, IsRefusalOfFail, first_of, MayRestart, IsStatedAs, IsRefusalToRestart}
use Rattle.rcv_guided.specs.Taking.{IsStill, MayFail, IsTaken, HaveTaken, SaysTaken}
use Rattle.rcv_guided.specs.Answers.{Says, IsAnswer}
use Rattle.rcv_guided.proofs.Backs.{kept_is}
use Rattle.rcv_guided.proofs.Counting.{one_concerned, one_undone, undone_same, kept_same, concerned_same}
use Rattle.rcv_guided.proofs.Falling.{when_down, known_down}
use Rattle.rcv_guided.proofs.Listing.{chosen, made_same}
use Rattle.rcv_guided.proofs.Recovered.{fail_comes, recover_comes, fail_refused, recover_refused, stated_same}
use Rattle.rcv_guided.proofs.Saying.{unchanged_by, answer_in}

-- Said in the words of the protocol, which is the same in both sessions.
across : (old new : SessionView) (text more : List ℕ) (P Q : Answer → Type 0) → new.guide.protocol ≡ old.guide.protocol → ((said : Answer) → P said → Q said) → Says (accepted_of new) text more P → Says (accepted_of old) text more Q
across old new text more P Q same so it = record {
  answer = it.answer;
  text = it.text ∙ ap (λ (p : Protocol). text ++ answer_text (record { protocol = p }) it.answer) same;
  is = so it.answer it.is;
}

said_as : (s new : SessionView) (text more : List ℕ) (P : Answer → Type 0) (said : Answer) → P said → more ≡ text ++ answer_text (accepted_of s) said → Says (accepted_of s) text more P
said_as s new text more P said is text_is = record { answer = said; text = text_is; is = is }

module _ {T E : Type 0} (result : Result T E) (s : SessionView) (text more : List ℕ) where
  -- `fail` isn't taken; and it is
  pub fail_refusal_said : (failed : List Failed) (said : Answer) → IsRefusalOfFail s failed said → OnOk result (more ≡ text ++ answer_text (accepted_of s) said) → OnOk result (Says (accepted_of s) text more (IsAnswer s (line.Fail failed) s))
  fail_refusal_said failed said is = on_success (more ≡ text ++ answer_text (accepted_of s) said) (Says (accepted_of s) text more (IsAnswer s (line.Fail failed) s)) result
      (said_as s s text more (IsAnswer s (line.Fail failed) s) said
      (answer_in s s (line.Fail failed) said (unchanged_by s (line.Fail failed) said (λ added after same. fail_refused s failed said added after is same))))

  pub fail_said : (after : SessionView) (failed : List Failed) (before : List ℕ) (taken : Taken) → roles_in s ≤ 8 → ((r : ℕ) → r < roles_in s → slice_index before r ≡ incarnation_of s r) → MayFail s failed → HaveTaken s failed taken after
      → OnOk result (Says (accepted_of after) text more (SaysTaken before taken after)) → OnOk result (Says (accepted_of s) text more (IsAnswer s (line.Fail failed) after))
  fail_said after failed before taken few before_is may have = on_success (Says (accepted_of after) text more (SaysTaken before taken after)) (Says (accepted_of s) text more (IsAnswer s (line.Fail failed) after)) result
      (across s after text more (SaysTaken before taken after) (IsAnswer s (line.Fail failed) after) have.protocol
      (λ said it. answer_in s after (line.Fail failed) said (fail_comes s after before (subst (λ n. n ≤ 8) (sym roles) few) (λ r lt. before_is r (subst (λ n. r < n) roles lt)) failed taken said may have it)))
    where
      roles : roles_in after ≡ roles_in s
      roles = ap (λ (p : Protocol). length p.roles) have.protocol

  -- `recover` isn't taken; something else is said; and it is taken
  pub recover_refusal_said : (told : ToldRecovery) (said : Answer) → IsRefusalToRestart s told said → OnOk result (more ≡ text ++ answer_text (accepted_of s) said) → OnOk result (Says (accepted_of s) text more (IsAnswer s (line.Recover told) s))
  recover_refusal_said told said is = on_success (more ≡ text ++ answer_text (accepted_of s) said) (Says (accepted_of s) text more (IsAnswer s (line.Recover told) s)) result
      (said_as s s text more (IsAnswer s (line.Recover told) s) said
      (answer_in s s (line.Recover told) said (unchanged_by s (line.Recover told) said (λ added after same. recover_refused s told said added after is same))))

  module _ (told : ToldRecovery) (few : roles_in s ≤ 8) (may : MayRestart s told.failed) (saved : List ℕ) (saved_are : HaveSaved s told.failed saved) (would : Recovery) (failure : IsFailureOf s.guide (first_of told.failed) saved would) (undone : Undone)
      (count : undone.undone ≡ would.undone) (kept : undone.kept.now ≡ with_counts (slice_index would.kept) (roles_where s (has_bit would.concerned.0))) where
    pub misstated : (IsStatedAs told.stated undone → ⊥) → IsRefusalToRestart s told (answer.Illegal (cause.Recovery undone))
    misstated other = record {
      may = may;
      saved = saved;
      saved_are = saved_are;
      back = would;
      failure = failure;
      undone_is = record {
        count = count ∙ one_undone would;
        kept_is = kept ∙ ap (with_counts (slice_index would.kept)) (chosen (has_bit would.concerned.0) (is_concerned (would ∷ [])) (roles_in s) (λ r lt. sym (one_concerned would r)));
      };
      other = other;
    }

    pub recover_said : (after : SessionView) (before : List ℕ) (taken : Taken) (back : Recovery) → HasMemory s.guide → ((r : ℕ) → r < roles_in s → slice_index before r ≡ incarnation_of s r) → IsStatedAs told.stated undone
        → GoesBack (first_of told.failed) saved s back after → IsStill s after 1 → GoesOnBy s (recovery_entry (first_of told.failed) back ∷ []) after → IsTaken (back ∷ []) taken
        → OnOk result (Says (accepted_of after) text more (SaysTaken before taken after)) → OnOk result (Says (accepted_of s) text more (IsAnswer s (line.Recover told) after))
    recover_said after before taken back has before_is stated goes still history is = on_success (Says (accepted_of after) text more (SaysTaken before taken after)) (Says (accepted_of s) text more (IsAnswer s (line.Recover told) after)) result
        (across s after text more (SaysTaken before taken after) (IsAnswer s (line.Recover told) after) still.protocol
        (λ said it. answer_in s after (line.Recover told) said
        (recover_comes s after before (subst (λ n. n ≤ 8) (sym roles) few) (λ r lt. before_is r (subst (λ n. r < n) roles lt)) told back (recovery_entry (first_of told.failed) back ∷ []) taken said may once entries is history as_stated it)))
      where
        roles : roles_in after ≡ roles_in s
        roles = ap (λ (q : Protocol). length q.roles) still.protocol

        down : is_down_in s.guide (first_of told.failed) ≡ true
        down = known_down s (first_of told.failed) true may.down

        once : FailsOnce told.failed (first_of told.failed) s back after
        once = record { saved = saved; saved_are = saved_are; back_is = subst (λ (t : SessionView). GoesBack (first_of told.failed) saved t back after) (sym (when_down s (first_of told.failed) down)) goes }

        entries : recovery_entry (first_of told.failed) back ∷ [] ≡ entries_of s.guide (first_of told.failed) back
        entries = ap (λ b. cond b [] (Crash (first_of told.failed) ∷ []) ++ recovery_entry (first_of told.failed) back ∷ []) (sym down)

        concerned : (r : ℕ) → r < 8 → has_bit taken.concerned.0 r ≡ has_bit would.concerned.0 r
        concerned r lt = is.concerned r lt ∙ one_concerned back r ∙ concerned_same s.guide has.memory has.is (first_of told.failed) saved back would goes.failure failure r lt

        as_stated : (v : Undone) → v.undone ≡ taken.undone → v.kept.now ≡ with_counts (made_of after) (roles_where after (has_bit taken.concerned.0)) → IsStatedAs told.stated v
        as_stated v v_count v_kept = stated_same told.stated undone v
            (v_count ∙ is.undone ∙ sym (one_undone back) ∙ undone_same s.guide has.memory has.is (first_of told.failed) saved back would goes.failure failure ∙ sym count)
            (v_kept
            ∙ ap (with_counts (made_of after)) (ap (λ n. filter (has_bit taken.concerned.0) (range_with_len 0 n)) roles ∙ chosen (has_bit taken.concerned.0) (has_bit would.concerned.0) (roles_in s) (λ r lt. concerned r (omega (arith, lt, few))))
            ∙ made_same (λ r. record { role = r; count = made_of after r }) (λ r. record { role = r; count = slice_index would.kept r }) (has_bit would.concerned.0) (roles_in s)
            (λ r lt. ap (λ n. record { role = r; count = n }) (sym (kept_is s.guide after.guide (first_of told.failed) saved back has.memory has.is goes.failure goes.recovered r lt) ∙ kept_same s.guide has.memory has.is (first_of told.failed) saved back would goes.failure failure r lt))
            ∙ sym kept)
            stated
