-- It is refused, is said to take back something else, or the role recovers.
use Rattle.std.proofs.Common.{◌≤◌, ℕ, List, [], ◌∷◌, None, length, get_or, refl, sym, ◌∙◌, ap, subst, arith}
use Rattle.std.specs.Prelude.{IsTrue, slice_index}
use Rattle.std.specs.List.{filter, range_with_len}
use Rattle.std.proofs.lemmas.List.Elements.{All-same}
use Rattle.rcv_tree.specs.Bits.{has_bit}
use Rattle.rcv_guide.specs.Guide.{HasMemory, IsFailureOf, recovery_entry}
use Rattle.rcv_dialogue.specs.declared.answer.Answer.TheVariants as answer
use Rattle.rcv_dialogue.specs.declared.answer.Cause.TheVariants as cause
use Rattle.rcv_dialogue.specs.declared.few.Failed.{Failed}
use Rattle.rcv_dialogue.specs.Answers.{HasRole}
use Rattle.rcv_guided.specs.Session.{SessionView, roles_in, incarnation_of}
use Rattle.rcv_guided.specs.Hearing.{accepted_of}
use Rattle.rcv_guided.specs.Counts.{roles_where, with_counts}
use Rattle.rcv_guided.specs.Failures.{HaveSaved, IsFirstBelow, IsStatedAs, GoesBack, first_of}
use Rattle.rcv_guided.specs.Histories.{GoesOnBy}
use Rattle.rcv_guided.proofs.Counting.{none_taken, one_taken}
use Rattle.rcv_guided.proofs.Enough.{are_enough}
use Rattle.rcv_guided.proofs.Recovered.{all_declared, restart_named, counts_named, first_is, may_restart}
use Rattle.rcv_guided.proofs.Replies.{recover_refusal_said, misstated, recover_said}
use Rattle.rcv_guided.proofs.session.GuidedSession.hear_recover.Goals as goal

pub refusal_to_restart-requires-clause-declared : goal.refusal_to_restart-requires-clause-declared
refusal_to_restart-requires-clause-declared c = all_declared (accepted_of c.args.self.now) c.args.told.now.failed c.requires.roles

pub say-requires : goal.say-requires
say-requires c = restart_named c.args.self.now c.args.told.now c.in-Some.refusal (all_declared (accepted_of c.args.self.now) c.args.told.now.failed c.requires.roles) c.in-Some.ensures

pub returns-in-Some-clause-says : goal.returns-in-Some-clause-says
returns-in-Some-clause-says c = recover_refusal_said c.say.result c.args.self.now c.args.text.now c.say.new.text c.args.told.now c.in-Some.refusal c.in-Some.ensures c.say.ensures

pub would_recover-would-requires : goal.would_recover-would-requires
would_recover-would-requires c =
    let some : 1 ≤ length c.as_slice-failed.result.now = (let same = ap (λ (l : List Failed). length l) c.as_slice-failed.ensures in let some = c.requires.some in omega (arith, same, some)) in
    let first = first_is c.as_slice-failed.result.now c.index-failed-0.result some ∙ ap first_of c.as_slice-failed.ensures in
    let above = subst (λ (l : List Failed). IsFirstBelow c.args.self.now l None) (sym c.as_slice-failed.ensures) c.in_default.ensures.may.above in
    let enough = c.saved-saved.ensures.enough (are_enough c.args.self.now c.as_slice-failed.result.now above) in
    may_restart c.args.self.now c.args.told.now.failed (get_or c.as_slice-failed.result.now 0 c.index-failed-0.result).role c.saved-saved.result c.in_default.ensures first (enough (get_or c.as_slice-failed.result.now 0 c.index-failed-0.result).role)

pub say-requires-then-not-is_stated_as : goal.say-requires-then-not-is_stated_as
say-requires-then-not-is_stated_as c =
    let roles = c.roles-roles.ensures.value ∙ ap (λ (s : SessionView). roles_in s) c.self.view_is in
    let kept = c.as_slice.ensures.value ∙ c.in_ok-kept.ensures
    ∙ ap (λ n. with_counts (slice_index c.would_recover-would.result.kept) (filter (has_bit c.would_recover-would.result.concerned.0) (range_with_len 0 n))) roles in
    All-same (HasRole (accepted_of c.args.self.now)) c.as_slice.result.now (with_counts (slice_index c.would_recover-would.result.kept) (roles_where c.args.self.now (has_bit c.would_recover-would.result.concerned.0))) kept
    (counts_named c.args.self.now (slice_index c.would_recover-would.result.kept) (has_bit c.would_recover-would.result.concerned.0))

pub returns-then-not-is_stated_as-clause-says : goal.returns-then-not-is_stated_as-clause-says
returns-then-not-is_stated_as-clause-says c =
    let some : 1 ≤ length c.as_slice-failed.result.now = (let same = ap (λ (l : List Failed). length l) c.as_slice-failed.ensures in let some = c.requires.some in omega (arith, same, some)) in
    let first = first_is c.as_slice-failed.result.now c.index-failed-0.result some ∙ ap first_of c.as_slice-failed.ensures in
    let above = subst (λ (l : List Failed). IsFirstBelow c.args.self.now l None) (sym c.as_slice-failed.ensures) c.in_default.ensures.may.above in
    let enough = c.saved-saved.ensures.enough (are_enough c.args.self.now c.as_slice-failed.result.now above) in
    let roles = c.roles-roles.ensures.value ∙ ap (λ (s : SessionView). roles_in s) c.self.view_is in
    let kept = c.as_slice.ensures.value ∙ c.in_ok-kept.ensures
    ∙ ap (λ n. with_counts (slice_index c.would_recover-would.result.kept) (filter (has_bit c.would_recover-would.result.concerned.0) (range_with_len 0 n))) roles in
    let other = λ (st : IsStatedAs c.args.told.now.stated (record { undone = c.would_recover-would.result.undone; kept = c.as_slice.result })). absurd (let yes = c.is_stated_as.ensures.1 st in let no = c.if-not-is_stated_as.true in cc) in
    recover_refusal_said c.say-then-not-is_stated_as.result c.args.self.now c.args.text.now c.say-then-not-is_stated_as.new.text c.args.told.now (answer.Illegal (cause.Recovery (record { undone = c.would_recover-would.result.undone; kept = c.as_slice.result })))
    (misstated c.say-then-not-is_stated_as.result c.args.self.now c.args.text.now c.say-then-not-is_stated_as.new.text c.args.told.now (let few = c.roles-roles.ensures.few in omega (arith, few, roles)) c.in_default.ensures.may c.saved-saved.result (subst (λ (l : List Failed). HaveSaved c.args.self.now l c.saved-saved.result) c.as_slice-failed.ensures c.saved-saved.ensures.counts)
    c.would_recover-would.result (subst (λ r. IsFailureOf c.args.self.now.guide r c.saved-saved.result c.would_recover-would.result) first c.would_recover-would.ensures)
    (record { undone = c.would_recover-would.result.undone; kept = c.as_slice.result }) refl kept
    other) c.say-then-not-is_stated_as.ensures

pub go_back-recovery-requires : goal.go_back-recovery-requires
go_back-recovery-requires c =
    let some : 1 ≤ length c.as_slice-failed.result.now = (let same = ap (λ (l : List Failed). length l) c.as_slice-failed.ensures in let some = c.requires.some in omega (arith, same, some)) in
    let first = first_is c.as_slice-failed.result.now c.index-failed-0.result some ∙ ap first_of c.as_slice-failed.ensures in
    let above = subst (λ (l : List Failed). IsFirstBelow c.args.self.now l None) (sym c.as_slice-failed.ensures) c.in_default.ensures.may.above in
    let enough = c.saved-saved.ensures.enough (are_enough c.args.self.now c.as_slice-failed.result.now above) in
    may_restart c.args.self.now c.args.told.now.failed (get_or c.as_slice-failed.result.now 0 c.index-failed-0.result).role c.saved-saved.result c.in_default.ensures first (enough (get_or c.as_slice-failed.result.now 0 c.index-failed-0.result).role)

pub returns-clause-says : goal.returns-clause-says
returns-clause-says c =
    let some : 1 ≤ length c.as_slice-failed.result.now = (let same = ap (λ (l : List Failed). length l) c.as_slice-failed.ensures in let some = c.requires.some in omega (arith, same, some)) in
    let first = first_is c.as_slice-failed.result.now c.index-failed-0.result some ∙ ap first_of c.as_slice-failed.ensures in
    let above = subst (λ (l : List Failed). IsFirstBelow c.args.self.now l None) (sym c.as_slice-failed.ensures) c.in_default.ensures.may.above in
    let enough = c.saved-saved.ensures.enough (are_enough c.args.self.now c.as_slice-failed.result.now above) in
    let roles = c.roles-roles.ensures.value ∙ ap (λ (s : SessionView). roles_in s) c.self.view_is in
    let kept = c.as_slice.ensures.value ∙ c.in_ok-kept.ensures
    ∙ ap (λ n. with_counts (slice_index c.would_recover-would.result.kept) (filter (has_bit c.would_recover-would.result.concerned.0) (range_with_len 0 n))) roles in
    let yes : IsTrue c.is_stated_as.result = (let f = c.if-not-is_stated_as.false in cc) in
    recover_said c.say_taken.result c.args.self.now c.args.text.now c.say_taken.new.text c.args.told.now (let few = c.roles-roles.ensures.few in omega (arith, few, roles)) c.in_default.ensures.may c.saved-saved.result (subst (λ (l : List Failed). HaveSaved c.args.self.now l c.saved-saved.result) c.as_slice-failed.ensures c.saved-saved.ensures.counts)
    c.would_recover-would.result (subst (λ r. IsFailureOf c.args.self.now.guide r c.saved-saved.result c.would_recover-would.result) first c.would_recover-would.ensures)
    (record { undone = c.would_recover-would.result.undone; kept = c.as_slice.result }) refl kept
    c.go_back-recovery.new.self c.copied-before.result c.add.new.self c.go_back-recovery.result
    (subst (λ (s : SessionView). HasMemory s.guide) c.self.view_is c.roles-roles.ensures.memory)
    (λ r lt.
    let same = ap (λ (l : List ℕ). length l) c.as_slice-2.ensures.value in
    let all = c.self.invariant.incarnations in
    let same_roles = ap (λ (s : SessionView). roles_in s) c.self.view_is in
    c.copied-before.ensures r (omega (arith, same, all, lt, same_roles))
    ∙ ap (λ (l : List ℕ). slice_index l r) c.as_slice-2.ensures.value ∙ ap (λ (s : SessionView). incarnation_of s r) c.self.view_is)
    (c.is_stated_as.ensures.0 yes)
    (subst (λ r. GoesBack r c.saved-saved.result c.args.self.now c.go_back-recovery.result c.go_back-recovery.new.self) first c.go_back-recovery.ensures.back)
    c.go_back-recovery.ensures.still
    (subst (λ r. GoesOnBy c.args.self.now (recovery_entry r c.go_back-recovery.result ∷ []) c.go_back-recovery.new.self) first c.go_back-recovery.ensures.history)
    (one_taken [] c.go_back-recovery.result c.nothing-taken.result c.add.new.self (none_taken c.nothing-taken.result c.nothing-taken.ensures.undone c.nothing-taken.ensures.concerned) c.add.ensures.undone c.add.ensures.concerned)
    c.say_taken.ensures
