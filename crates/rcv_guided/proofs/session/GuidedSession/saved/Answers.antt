-- One role more.
use Rattle.std.proofs.Common.{length-set, ◌∙◌, ap, subst, arith}
use Rattle.rcv_guide.specs.Guide.{HasMemory}
use Rattle.rcv_guided.specs.Session.{SessionView, roles_in}
use Rattle.rcv_guided.specs.Failures.{told_count, IsSavedCount}
use Rattle.rcv_guided.proofs.Enough.{have_enough}
use Rattle.rcv_guided.proofs.Listing.{set_more}
use Rattle.rcv_guided.proofs.session.GuidedSession.saved.Goals as goal

pub loop-role-preserved : goal.loop-role-preserved
loop-role-preserved c =
    let few = c.roles-role-end.ensures.few in
    let lt = c.loop-role-test.true in
    let eight = c.loop-role.invariant.eight in
    record {
      eight = length-set c.loop-role.saved c.loop-role.role c.saved_by.result ∙ c.loop-role.invariant.eight;
      each = set_more (λ r n. IsSavedCount c.args.self.now r (told_count c.args.failed.now r) n) c.loop-role.saved c.loop-role.role c.saved_by.result (omega (arith, few, lt, eight)) c.loop-role.invariant.each c.saved_by.ensures;
    }

pub returns-clause-counts : goal.returns-clause-counts
returns-clause-counts c r lt =
    let value = c.roles-role-end.ensures.value in
    let end = c.loop-role-test.false in
    let roles = ap (λ (s : SessionView). roles_in s) c.self.view_is in
    c.loop-role.invariant.each r (omega (arith, value, end, roles, lt))

pub returns-clause-enough : goal.returns-clause-enough
returns-clause-enough c enough =
    let has = subst (λ (s : SessionView). HasMemory s.guide) c.self.view_is c.roles-role-end.ensures.memory in
    have_enough c.args.self.now has.memory has.is c.args.failed.now enough c.loop-role.saved
    (λ r lt.
    let value = c.roles-role-end.ensures.value in
    let end = c.loop-role-test.false in
    let roles = ap (λ (s : SessionView). roles_in s) c.self.view_is in
    c.loop-role.invariant.each r (omega (arith, value, end, roles, lt)))
