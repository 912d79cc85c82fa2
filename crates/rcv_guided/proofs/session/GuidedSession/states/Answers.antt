-- One role more.
use Rattle.std.proofs.Common.{length-set, length-take-le, ◌∙◌, ap, arith}
use Rattle.rcv_guided.specs.Session.{SessionView, roles_in}
use Rattle.rcv_guided.specs.Questions.{IsStateOf}
use Rattle.rcv_guided.proofs.Listed.{set_each, first_get}
use Rattle.rcv_guided.proofs.session.GuidedSession.states.Goals as goal

pub loop-role-preserved : goal.loop-role-preserved
loop-role-preserved c =
    let few = c.roles-role-end.ensures.few in
    let lt = c.loop-role-test.true in
    let eight = c.loop-role.invariant.eight in
    record {
      eight = length-set c.loop-role.states c.loop-role.role c.role_state.result ∙ eight;
      done = set_each (IsStateOf c.args.self.now) c.loop-role.states c.loop-role.role c.role_state.result (omega (arith, few, lt, eight)) c.role_state.ensures c.loop-role.invariant.done;
    }

pub returns : goal.returns
returns c =
    let value = c.roles-role-end.ensures.value in
    let few = c.roles-role-end.ensures.few in
    let end = c.loop-role-test.false in
    let roles = ap (λ (s : SessionView). roles_in s) c.self.view_is in
    let eight = c.loop-role.invariant.eight in
    record {
      all = length-take-le (roles_in c.args.self.now) c.loop-role.states (omega (arith, value, few, roles, eight));
      each = λ r own there.
          let got = first_get c.loop-role.states (roles_in c.args.self.now) r own there in
          c.loop-role.invariant.done r own (let low = got.0 in omega (arith, value, end, roles, low)) got.1;
    }
