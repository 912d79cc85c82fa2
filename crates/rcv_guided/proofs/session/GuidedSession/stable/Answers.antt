-- One role more.
use Rattle.std.proofs.Common.{◌≡◌, ◌+◌, length-set, ◌∙◌, ap, subst, arith}
use Rattle.std.specs.Prelude.{slice_index}
use Rattle.rcv_guide.specs.Line.{IsLine}
use Rattle.rcv_guided.specs.Session.{SessionView, roles_in, forgotten_of}
use Rattle.rcv_guided.proofs.Listing.{set_more}
use Rattle.rcv_guided.proofs.session.GuidedSession.stable.Goals as goal

pub with_forgotten-requires-clause-held : goal.with_forgotten-requires-clause-held
with_forgotten-requires-clause-held c =
    let value = c.roles-role-end.ensures.value in
    let lt = c.loop-role-test.true in
    c.line-line.ensures.stable.forget.held c.loop-role.role (omega (arith, value, lt))

pub loop-role-preserved : goal.loop-role-preserved
loop-role-preserved c =
    let few = c.roles-role-end.ensures.few in
    let lt = c.loop-role-test.true in
    let eight = c.loop-role.invariant.eight in
    record {
      eight = length-set c.loop-role.stable c.loop-role.role c.with_forgotten.result ∙ c.loop-role.invariant.eight;
      each = set_more (λ r n. n ≡ forgotten_of c.args.self.now r + slice_index c.line-line.result r) c.loop-role.stable c.loop-role.role c.with_forgotten.result (omega (arith, few, lt, eight)) c.loop-role.invariant.each
          (c.with_forgotten.ensures ∙ ap (λ (s : SessionView). forgotten_of s c.loop-role.role + slice_index c.line-line.result c.loop-role.role) c.self.view_is);
    }

pub returns : goal.returns
returns c = record {
  counts = c.line-line.result;
  line = subst (λ (s : SessionView). IsLine s.guide s.saves c.line-line.result) c.self.view_is c.line-line.ensures;
  each = λ r lt.
      let value = c.roles-role-end.ensures.value in
      let end = c.loop-role-test.false in
      let roles = ap (λ (s : SessionView). roles_in s) c.self.view_is in
      c.loop-role.invariant.each r (omega (arith, value, end, roles, lt));
}
