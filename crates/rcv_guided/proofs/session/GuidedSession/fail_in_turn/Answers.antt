-- One role more has failed, or had gone back before.
use Rattle.std.proofs.Common.{◌<◌, ◌+◌, List, drop, refl, sym, ◌∙◌, ap, subst, arith}
use Rattle.std.specs.Prelude.{◌==◌}
use Rattle.std.proofs.lemmas.Nat.Bits.{bit_at-zero}
use Rattle.rcv_plan.specs.Plans.{IsGroup}
use Rattle.rcv_dialogue.specs.declared.few.Failed.{Failed}
use Rattle.rcv_guided.specs.Session.{SessionView, roles_in}
use Rattle.rcv_guided.proofs.Apart.{item_declared, left_at, none_left}
use Rattle.rcv_guided.proofs.Counting.{none_taken}
use Rattle.rcv_guided.proofs.Going.{on_same}
use Rattle.rcv_guided.proofs.InTurn.{Going, not_yet, fails, have_taken}
use Rattle.rcv_guided.proofs.session.GuidedSession.fail_in_turn.Goals as goal

pub has-requires : goal.has-requires
has-requires c =
    let lt = item_declared c.args.failed.now (roles_in c.args.self.now) c.loop-one.one-index c.one-item.result c.requires.declared c.loop-one-test.true c.one-item.is in
    let roles = ap (λ (s : SessionView). roles_in s) c.self.view_is in
    let value = c.roles-roles.ensures.value in
    let few = c.roles-roles.ensures.few in
    omega (arith, lt, roles, value, few)

pub loop-one-init : goal.loop-one-init
loop-one-init c = record {
  going = not_yet c.args.self.now c.args.failed.now 0 c.nothing-taken.result (λ r lt. ap (λ b. b == 1) (bit_at-zero r)) (none_taken c.nothing-taken.result c.nothing-taken.ensures.undone c.nothing-taken.ensures.concerned)
      (on_same c.args.self.now c.args.self.now refl) c.requires.enough c.requires.room;
  few = let none = c.nothing-taken.ensures.undone in omega (arith, none);
}

pub loop-one-preserved : goal.loop-one-preserved
loop-one-preserved c =
    let declared = item_declared c.args.failed.now (roles_in c.args.self.now) c.loop-one.one-index c.one-item.result c.requires.declared c.loop-one-test.true c.one-item.is in
    let roles = ap (λ (s : SessionView). roles_in s) c.self.view_is in
    let value = c.roles-roles.ensures.value in
    let most = c.roles-roles.ensures.few in
    let low : c.one-item.result.role < 8 = omega (arith, declared, roles, value, most) in
    record {
      going = fails c.args.self.now c.loop-one.self c.fail-recovery.new.self c.args.failed.now (drop (c.loop-one.one-index + 1) c.args.failed.now) c.one-item.result c.loop-one.gone.0 c.group.result.0 c.union-gone.result.0
          c.loop-one.taken c.add.new.self c.fail-recovery.result low (sym c.has.ensures ∙ c.if-has.false)
          (subst (λ (s : SessionView). IsGroup s.guide.plan c.one-item.result.role c.group.result.0) c.self-in-loop-one.view_is c.group.ensures) c.union-gone.ensures
          (record { saved = c.saved-saved.result; saved_are = c.saved-saved.ensures.counts; back_is = c.fail-recovery.ensures.back }) c.fail-recovery.ensures.still c.fail-recovery.ensures.history
          c.add.ensures.undone c.add.ensures.concerned
          (subst (λ (l : List Failed). Going c.args.self.now c.args.failed.now l c.loop-one.gone.0 c.loop-one.taken c.loop-one.self) (left_at c.args.failed.now c.loop-one.one-index c.one-item.result c.loop-one-test.true c.one-item.is) c.loop-one.invariant.going);
      few = let few = c.loop-one.invariant.few in let more = c.add.ensures.few in omega (arith, few, more);
    }

pub returns : goal.returns
returns c =
    have_taken c.args.self.now c.loop-one.self c.args.failed.now c.loop-one.gone.0 c.loop-one.taken
    (subst (λ (l : List Failed). Going c.args.self.now c.args.failed.now l c.loop-one.gone.0 c.loop-one.taken c.loop-one.self) (none_left c.args.failed.now c.loop-one.one-index c.loop-one-test.false) c.loop-one.invariant.going)
