-- One role more.
use Rattle.std.proofs.Common.{◌≡◌, Some, List, [], ◌∷◌, length, length-append, ap, sym, subst, arith}
use Rattle.std.specs.Prelude.{slice_get}
use Rattle.rcv_dialogue.specs.declared.answer.RoleState.{RoleState}
use Rattle.rcv_guide.specs.Guide.{net_for}
use Rattle.rcv_retold.specs.Closing.{IsStateOf}
use Rattle.rcv_retold.proofs.Ending.{pushed}
use Rattle.rcv_retold.proofs.closing.states_of.Goals as goal

pub loop-role-preserved : goal.loop-role-preserved
loop-role-preserved c =
    let items = c.in_ok-push.ensures.items in
    let count = c.loop-role.invariant.count in
    record {
      count = omega (arith, count, ap length items, length-append c.loop-role.states.items (c.role_state.result ∷ []));
      each = λ m mem r own there. pushed (IsStateOf (net_for c.args.guide.now) m) c.loop-role.states.items c.role_state.result
          (subst (λ n. IsStateOf (net_for c.args.guide.now) m n c.role_state.result) (sym count) (c.role_state.ensures m mem))
          (c.loop-role.invariant.each m mem) r own (subst (λ (l : List RoleState). slice_get l r ≡ Some own) items there);
    }

pub returns : goal.returns
returns c = λ m mem. record {
  all =
      let count = c.loop-role.invariant.count in
      let value = c.roles-role-end.ensures.value in
      let over = c.loop-role-test.false in
      let within = c.loop-role.auto.role-end in
      omega (arith, count, value, over, within);
  each = c.loop-role.invariant.each m mem;
}
