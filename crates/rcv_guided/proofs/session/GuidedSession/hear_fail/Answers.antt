-- It is refused, or the roles fail.
use Rattle.std.proofs.Common.{◌≤◌, ◌<◌, ℕ, List, length, sym, ◌∙◌, ap, subst, arith}
use Rattle.std.specs.Prelude.{All, slice_index}
use Rattle.rcv_dialogue.specs.declared.few.Failed.{Failed}
use Rattle.rcv_guided.specs.Session.{SessionView, roles_in, incarnation_of}
use Rattle.rcv_guided.specs.Hearing.{accepted_of}
use Rattle.rcv_guided.specs.Failures.{IsRefusalOfFail}
use Rattle.rcv_guided.specs.Taking.{MayFail, HaveTaken}
use Rattle.rcv_guided.proofs.Enough.{are_enough}
use Rattle.rcv_guided.proofs.Recovered.{all_declared, fail_named}
use Rattle.rcv_guided.proofs.Replies.{fail_refusal_said, fail_said}
use Rattle.rcv_guided.proofs.session.GuidedSession.hear_fail.Goals as goal

pub refusal_of_fail-requires-clause-few : goal.refusal_of_fail-requires-clause-few
refusal_of_fail-requires-clause-few c =
    let same = ap (λ (l : List Failed). length l) c.as_slice.ensures in
    let all : length c.args.failed.now ≤ roles_in c.args.self.now = c.requires.few in
    let roles = ap (λ (s : SessionView). roles_in s) c.self.view_is in
    let value = c.roles-roles.ensures.value in
    let few = c.roles-roles.ensures.few in
    omega (arith, same, all, roles, value, few)

pub refusal_of_fail-requires-clause-declared : goal.refusal_of_fail-requires-clause-declared
refusal_of_fail-requires-clause-declared c =
    subst (λ (l : List Failed). All (λ f. f.role < roles_in c.args.self.now) l) (sym c.as_slice.ensures) (all_declared (accepted_of c.args.self.now) c.args.failed.now c.requires.roles)

pub say-requires : goal.say-requires
say-requires c =
    fail_named c.args.self.now c.args.failed.now c.in-Some.refusal (all_declared (accepted_of c.args.self.now) c.args.failed.now c.requires.roles)
    (subst (λ (l : List Failed). IsRefusalOfFail c.args.self.now l c.in-Some.refusal) c.as_slice.ensures c.in-Some.ensures)

pub returns-in-Some-clause-says : goal.returns-in-Some-clause-says
returns-in-Some-clause-says c =
    fail_refusal_said c.say.result c.args.self.now c.args.text.now c.say.new.text c.args.failed.now c.in-Some.refusal
    (subst (λ (l : List Failed). IsRefusalOfFail c.args.self.now l c.in-Some.refusal) c.as_slice.ensures c.in-Some.ensures) c.say.ensures

pub copied-before-requires : goal.copied-before-requires
copied-before-requires c =
    let same = ap (λ (l : List ℕ). length l) c.as_slice-2.ensures.value in
    let all = c.self.invariant.incarnations in
    let value = c.roles-roles.ensures.value in
    let few = c.roles-roles.ensures.few in
    omega (arith, same, all, value, few)

pub fail_in_turn-taken-requires-clause-few : goal.fail_in_turn-taken-requires-clause-few
fail_in_turn-taken-requires-clause-few c =
    let same = ap (λ (l : List Failed). length l) c.as_slice-3.ensures in
    let all : length c.args.failed.now ≤ roles_in c.args.self.now = c.requires.few in
    let roles = ap (λ (s : SessionView). roles_in s) c.self.view_is in
    let value = c.roles-roles.ensures.value in
    let few = c.roles-roles.ensures.few in
    omega (arith, same, all, roles, value, few)

pub fail_in_turn-taken-requires-clause-declared : goal.fail_in_turn-taken-requires-clause-declared
fail_in_turn-taken-requires-clause-declared c =
    subst (λ (l : List Failed). All (λ f. f.role < roles_in c.args.self.now) l) (sym c.as_slice-3.ensures) (all_declared (accepted_of c.args.self.now) c.args.failed.now c.requires.roles)

pub fail_in_turn-taken-requires-clause-enough : goal.fail_in_turn-taken-requires-clause-enough
fail_in_turn-taken-requires-clause-enough c =
    let may = subst (λ (l : List Failed). MayFail c.args.self.now l) (c.as_slice.ensures ∙ sym c.as_slice-3.ensures) c.in_default.ensures in
    are_enough c.args.self.now c.as_slice-3.result.now may.above

pub returns-clause-says : goal.returns-clause-says
returns-clause-says c =
    let may = subst (λ (l : List Failed). MayFail c.args.self.now l) c.as_slice.ensures c.in_default.ensures in
    let have = subst (λ (l : List Failed). HaveTaken c.args.self.now l c.fail_in_turn-taken.result c.fail_in_turn-taken.new.self) c.as_slice-3.ensures c.fail_in_turn-taken.ensures in
    let roles = ap (λ (s : SessionView). roles_in s) c.self.view_is in
    let value = c.roles-roles.ensures.value in
    let few = c.roles-roles.ensures.few in
    fail_said c.say_taken.result c.args.self.now c.args.text.now c.say_taken.new.text c.fail_in_turn-taken.new.self c.args.failed.now c.copied-before.result c.fail_in_turn-taken.result
    (omega (arith, roles, value, few))
    (λ r lt.
    let same = ap (λ (l : List ℕ). length l) c.as_slice-2.ensures.value in
    let all = c.self.invariant.incarnations in
    c.copied-before.ensures r (omega (arith, same, all, lt, roles))
    ∙ ap (λ (l : List ℕ). slice_index l r) c.as_slice-2.ensures.value ∙ ap (λ (s : SessionView). incarnation_of s r) c.self.view_is)
    may have c.say_taken.ensures
