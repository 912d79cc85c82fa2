-- The lists of an answer to failures.
use Rattle.std.proofs.Common.{◌≡◌, ℕ, ◌<◌, List, ◌++◌, map, length, sym, ◌∙◌, ap, ap₂, subst}
use Rattle.std.specs.Prelude.{Result, OnOk, All, nat_lt, slice_index}
use Rattle.std.specs.List.{filter, range_with_len}
use Rattle.std.proofs.lemmas.List.Elements.{All-same, All-weaker}
use Rattle.rcv_tree.specs.Bits.{has_bit}
use Rattle.rcv_tree.specs.declared.role.RoleSet.{RoleSet}
use Rattle.rcv_guide.proofs.Memories.{on_success}
use Rattle.rcv_dialogue.specs.declared.answer.Answer.TheVariants as answer
use Rattle.rcv_dialogue.specs.declared.answer.Back.{Back}
use Rattle.rcv_dialogue.specs.declared.answer.Undone.{Undone}
use Rattle.rcv_dialogue.specs.declared.line.Flight.{Flight}
use Rattle.rcv_dialogue.specs.Answers.{answer_text, HasRole, HasEnds, IsNamed}
use Rattle.rcv_dialogue.specs.Lines.{IsRole}
use Rattle.std.specs.Borrow.{Bor}
use Rattle.rcv_guided.specs.declared.taken.Taken.{Taken}
use Rattle.rcv_guided.specs.Session.{SessionView, roles_in, incarnation_of}
use Rattle.rcv_guided.specs.Hearing.{accepted_of}
use Rattle.rcv_guided.specs.Counts.{made_of, roles_where, with_counts}
use Rattle.rcv_guided.specs.Failures.{back_of}
use Rattle.rcv_guided.specs.Flights.{flights_to_all, IsFlight}
use Rattle.rcv_guided.specs.Taking.{raised_in, IsTakenAnswer, SaysTaken}
use Rattle.rcv_guided.specs.Answers.{Says}
use Rattle.rcv_guided.proofs.Listing.{chosen, made_same, all_made}
use Rattle.rcv_guided.proofs.Recovered.{counts_named}

module _ (s : SessionView) (before : List ℕ) (taken : Taken) (made incarnations : List ℕ) (higher roles : ℕ) (roles_are : roles ≡ roles_in s) (many : length incarnations ≡ roles_in s)
    (made_is : (r : ℕ) → r < roles_in s → slice_index made r ≡ made_of s r) (incarnations_are : incarnations ≡ s.incarnations)
    (who : (r : ℕ) → r < length incarnations → has_bit higher r ≡ nat_lt (slice_index before r) (slice_index incarnations r)) where
  same_raised : filter (has_bit higher) (range_with_len 0 (roles_in s)) ≡ raised_in before s
  same_raised = chosen (has_bit higher) (λ r. nat_lt (slice_index before r) (incarnation_of s r)) (roles_in s)
      (λ r lt. who r (subst (λ n. r < n) (sym many) lt) ∙ ap (λ l. nat_lt (slice_index before r) (slice_index l r)) incarnations_are)

  backs_are : map (λ r. record { role = r; count = slice_index made r; incarnation = slice_index incarnations r }) (filter (has_bit higher) (range_with_len 0 (length incarnations))) ≡ map (back_of s) (raised_in before s)
  backs_are =
      ap (λ n. map (λ r. record { role = r; count = slice_index made r; incarnation = slice_index incarnations r }) (filter (has_bit higher) (range_with_len 0 n))) many
      ∙ made_same (λ r. record { role = r; count = slice_index made r; incarnation = slice_index incarnations r }) (back_of s) (has_bit higher) (roles_in s)
      (λ r lt. ap₂ (λ n i. record { role = r; count = n; incarnation = i }) (made_is r lt) (ap (λ l. slice_index l r) incarnations_are))
      ∙ ap (map (back_of s)) same_raised

  pub taken_answer : (concerned : RoleSet) → concerned ≡ taken.concerned → (undone : Undone) (back : List Back) (flight : List Flight) → undone.undone ≡ taken.undone
      → undone.kept.now ≡ with_counts (slice_index made) (filter (has_bit concerned.0) (range_with_len 0 roles))
      → back ≡ map (λ r. record { role = r; count = slice_index made r; incarnation = slice_index incarnations r }) (filter (has_bit higher) (range_with_len 0 (length incarnations)))
      → flight ≡ flights_to_all s.guide (filter (has_bit higher) (range_with_len 0 (roles_in s))) → IsTakenAnswer before taken s undone back flight
  taken_answer concerned concerned_is undone back flight count kept backs flights = record {
    count = count;
    kept_is =
        kept
        ∙ ap₂ (λ (set : RoleSet) n. with_counts (slice_index made) (filter (has_bit set.0) (range_with_len 0 n))) concerned_is roles_are
        ∙ made_same (λ r. record { role = r; count = slice_index made r }) (λ r. record { role = r; count = made_of s r }) (has_bit taken.concerned.0) (roles_in s)
        (λ r lt. ap (λ n. record { role = r; count = n }) (made_is r lt));
    back_is = backs ∙ backs_are;
    flight_is = flights ∙ ap (flights_to_all s.guide) same_raised;
  }

-- It names declared roles and points.
pub taken_named : (s : SessionView) (before : List ℕ) (taken : Taken) (undone : Undone) (back : Bor (List Back)) (flight : Bor (List Flight)) → IsTakenAnswer before taken s undone back.now flight.now → All (IsFlight s.guide) flight.now
    → IsNamed (accepted_of s) (answer.Recovered undone back flight)
taken_named s before taken undone back flight is all = (
  All-same (HasRole (accepted_of s)) undone.kept.now (with_counts (made_of s) (roles_where s (has_bit taken.concerned.0))) is.kept_is (counts_named s (made_of s) (has_bit taken.concerned.0)),
  All-same (λ b. IsRole (accepted_of s) b.role) back.now (map (back_of s) (raised_in before s)) is.back_is
      (all_made (λ b. IsRole (accepted_of s) b.role) (back_of s) (λ r. nat_lt (slice_index before r) (incarnation_of s r)) (roles_in s) (λ r lt. lt)),
  All-weaker (IsFlight s.guide) (HasEnds (accepted_of s)) (λ f h. h) flight.now all,
)

pub taken_said : {T E : Type 0} (result : Result T E) (s : SessionView) (text more before : List ℕ) (taken : Taken) (undone : Undone) (back : Bor (List Back)) (flight : Bor (List Flight)) → IsTakenAnswer before taken s undone back.now flight.now
    → OnOk result (more ≡ text ++ answer_text (accepted_of s) (answer.Recovered undone back flight)) → OnOk result (Says (accepted_of s) text more (SaysTaken before taken s))
taken_said result s text more before taken undone back flight is = on_success (more ≡ text ++ answer_text (accepted_of s) (answer.Recovered undone back flight)) (Says (accepted_of s) text more (SaysTaken before taken s)) result
    (λ e. record { answer = answer.Recovered undone back flight; text = e; is = is })
