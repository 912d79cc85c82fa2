-- What several sessions come to doesn't name the workers.
use Rattle.std.proofs.Common.{◌≡◌, ℕ, ◌≤◌, Bool, List, length, subst}
use Rattle.rcv_words.specs.Commands.{CommandView, Run, RunMany, IsCommand}
use Rattle.rcv_top.specs.declared.status.Status.{Status}
use Rattle.rcv_top.specs.Commands.{AskForSeveral, text_for}
use Rattle.rcv_top.specs.Outcome.{most_bytes, IsAnswer, IsOutcome, usage, too_long, answered, refused, made, replayed}
use Rattle.rcv_top.specs.Laws.{WorkersDecideNothing}
use Rattle.rcv_top.proofs.Asking.{one_command}
use Rattle.rcv_top.proofs.Outcomes.{one_outcome}

-- words for several sessions don't ask for several workers of one
pub one_each : (words : List (List ℕ)) (sessions workers : ℕ) (json : Bool) → IsCommand words (RunMany sessions workers json) → AskForSeveral words → ⊥
one_each words sessions workers json is several =
    let same : RunMany sessions workers json ≡ Run several.0 several.1 = one_command words (RunMany sessions workers json) (Run several.0 several.1) is several.3 in
    cc

module _ (sessions workers others : ℕ) (json : Bool) where
  answer_moves : (text : List ℕ) (s : Status) (b : List ℕ) → IsAnswer (RunMany sessions others json) text s b → IsAnswer (RunMany sessions workers json) text s b
  answer_moves text s b (refused whole refusal first) = refused tt refusal first
  answer_moves text s b (made session taken makes) = made session taken makes
  answer_moves text s b (replayed is answer) = absurd cc

  pub outcome_moves : (first second : List (List ℕ)) (input : List ℕ) (s : Status) (b : List ℕ) → IsCommand first (RunMany sessions workers json) → IsCommand second (RunMany sessions others json) → IsOutcome second input s b → IsOutcome first input s b
  outcome_moves first second input s b is other (usage none) = absurd (none (RunMany sessions others json) other)
  outcome_moves first second input s b is other (too_long source many) = too_long (RunMany sessions workers json, tt, is) many
  outcome_moves first second input s b is other (answered command asked answer) =
      let same : command ≡ RunMany sessions others json = one_command second command (RunMany sessions others json) asked.words_are other in
      answered (RunMany sessions workers json)
      (record { words_are = is; short = subst (λ (c : CommandView). length (text_for c input) ≤ most_bytes) same asked.short })
      (answer_moves input s b (subst (λ (c : CommandView). IsAnswer c (text_for c input) s b) same answer))

pub workers_decide_nothing : WorkersDecideNothing
workers_decide_nothing words others input sessions workers other_workers json s t b c is other first second =
    one_outcome words input s t b c (one_each words sessions workers json is) first (outcome_moves sessions workers other_workers json words others input t c is other second)
