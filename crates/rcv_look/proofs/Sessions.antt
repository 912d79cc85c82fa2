-- What is answered to a session's journal, from what its parts are.
use Rattle.std.proofs.Common.{◌≡◌, ℕ, ◌+◌, ◌-◌, ◌<◌, ◌≤◌, List, [], take, drop, Some, None, sym, ap, ◌∙◌, subst, arith}
use Rattle.std.specs.Prelude.{Result, IfOk}
use Rattle.std.proofs.lemmas.List.{drop-drop}
use Rattle.rcv_session.specs.Session.{SessionView}
use Rattle.rcv_input.specs.declared.refused.Refused as refusals
use Rattle.rcv_input.specs.declared.refused.InputError.{InputError}
use Rattle.rcv_input.specs.declared.refused.InputError.TheVariants as causes
use Rattle.rcv_input.specs.Input.{IsTaken}
use Rattle.rcv_input.specs.Refusals.{IsRefused}
use Rattle.rcv_input.specs.Line.{refusal_line}
use Rattle.rcv_replay.specs.declared.cut.Cut.{Cut}
use Rattle.rcv_replay.specs.Cutting.{cut_of, bundle_of, journal_of, line_of_end}
use Rattle.rcv_section.specs.declared.section.Section.{Section}
use Rattle.rcv_section.specs.Sections.{IsSection, HasNoSection, section_text}
use Rattle.rcv_later.specs.Later.{later}
use Rattle.rcv_look.specs.declared.output.Output.{Output}
use Rattle.rcv_look.specs.declared.status.Status.TheVariants as statuses
use Rattle.rcv_look.specs.Outcome.{IsTextAnswer, IsLaterAnswer, IsSessionAnswer, feeds_up_to, no_journal_line, uncut, long, missing, parted}
use Rattle.rcv_look.specs.Outcome as outcomes
use Rattle.rcv_look.proofs.Making.{Makes, made, widen, refused}

module _ {E : Type 0} (result : Result Output E) where
  -- no separator
  pub uncut_said : (number : ℕ) (input : List ℕ) (line : ℕ) → cut_of input ≡ None → line ≡ line_of_end input
      → IfOk result (λ output. output.status ≡ statuses.Refused) → IfOk result (λ output. output.bytes.items ≡ no_journal_line line) → Makes (IsSessionAnswer number input) result
  uncut_said number input line none is status bytes =
      made (IsSessionAnswer number input) result statuses.Refused (no_journal_line line) status bytes
      (subst (λ (n : ℕ). IsSessionAnswer number input statuses.Refused (no_journal_line n)) (sym is) (uncut none))

  -- no line of the session
  pub missing_said : (number : ℕ) (input : List ℕ) (cut : Cut) (text : List ℕ) (line : ℕ) → cut_of input ≡ Some cut → cut.end ≤ 1048576
      → text ≡ journal_of input cut → HasNoSection number text → line ≡ line_of_end input
      → IfOk result (λ output. output.status ≡ statuses.Refused) → IfOk result (λ output. output.bytes.items ≡ no_journal_line line) → Makes (IsSessionAnswer number input) result
  missing_said number input cut text line cuts few same none is status bytes =
      made (IsSessionAnswer number input) result statuses.Refused (no_journal_line line) status bytes
      (subst (λ (n : ℕ). IsSessionAnswer number input statuses.Refused (no_journal_line n)) (sym is) (missing cut cuts few (subst (HasNoSection number) same none)))

  -- a bundle with the section of a session
  pub section_said : (number : ℕ) (input : List ℕ) (cut : Cut) (section : Section) (bundle text : List ℕ) (feeds : ℕ) → cut_of input ≡ Some cut → cut.end ≤ 1048576
      → IsSection number (journal_of input cut) section → bundle ≡ bundle_of input cut → text ≡ section_text (journal_of input cut) section → feeds ≡ feeds_up_to input cut section
      → Makes (IsLaterAnswer (number - 1) bundle text feeds) result → Makes (IsSessionAnswer number input) result
  section_said number input cut section bundle text feeds cuts few is same_bundle same_text same_feeds makes =
      widen (IsLaterAnswer (number - 1) bundle text feeds) (IsSessionAnswer number input) result
      (λ s b answer. parted cut section cuts few is (subst (λ (n : ℕ). IsLaterAnswer (number - 1) (bundle_of input cut) (section_text (journal_of input cut) section) n s b) same_feeds
      (subst (λ (t : List ℕ). IsLaterAnswer (number - 1) (bundle_of input cut) t feeds s b) same_text
      (subst (λ (u : List ℕ). IsLaterAnswer (number - 1) u text feeds s b) same_bundle answer)))) makes

  -- a bundle that is taken, or refused
  pub later_said : (i : ℕ) (bundle text : List ℕ) (session setup : SessionView) (feeds : ℕ) → setup ≡ later session i → IsTaken bundle session
      → Makes (IsTextAnswer setup text feeds) result → Makes (IsLaterAnswer i bundle text feeds) result
  later_said i bundle text session setup feeds same is_taken makes =
      widen (IsTextAnswer setup text feeds) (IsLaterAnswer i bundle text feeds) result
      (λ s b answer. outcomes.taken setup (record { session = session; taken = is_taken; is_later = same }) answer) makes

  pub refused_said : (i : ℕ) (bundle text : List ℕ) (feeds : ℕ) (error : InputError) → IsRefused bundle error
      → IfOk result (λ output. (refusal : refusals.Refused) × (error ≡ causes.Refused refusal) × (output.status ≡ statuses.Refused) × (output.bytes.items ≡ refusal_line refusal))
      → Makes (IsLaterAnswer i bundle text feeds) result
  refused_said i bundle text feeds error is said = refused (IsLaterAnswer i bundle text feeds) error result said (λ refusal same. outcomes.refused refusal (subst (IsRefused bundle) same is))

-- a bundle that is too long
pub long_said : (number : ℕ) (input : List ℕ) (cut : Cut) (bytes : List ℕ) → cut_of input ≡ Some cut → 1048576 < cut.end → bytes ≡ [] → IsSessionAnswer number input statuses.TooLong bytes
long_said number input cut bytes is more empty = subst (IsSessionAnswer number input statuses.TooLong) (sym empty) (long cut is more)

-- the section's bytes, counted over the whole input
pub bytes_of : (input : List ℕ) (cut : Cut) (section : Section) → take (cut.behind + section.end - (cut.behind + section.begin)) (drop (cut.behind + section.begin) input) ≡ section_text (journal_of input cut) section
bytes_of input cut section =
    ap (λ (n : ℕ). take n (drop (cut.behind + section.begin) input)) (omega arith)
    ∙ ap (take (section.end - section.begin)) (sym (drop-drop section.begin cut.behind input))
