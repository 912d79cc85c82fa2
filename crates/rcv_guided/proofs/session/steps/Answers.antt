-- One role more.
use Rattle.std.proofs.Common.{ℕ, List, [], ◌∷◌, ◌++◌, map, sym, ◌∙◌, ap, arith}
use Rattle.std.specs.List.{range_with_len}
use Rattle.std.proofs.lemmas.List.FromFn.{map-range_with_len_more}
use Rattle.rcv_guided.specs.Session.{step_by}
use Rattle.rcv_guided.proofs.session.steps.Goals as goal

pub loop-role-preserved : goal.loop-role-preserved
loop-role-preserved c =
    c.in_ok-push.ensures.items ∙ ap (λ (l : List ℕ). l ++ c.step.result ∷ []) c.loop-role.invariant ∙ ap (λ n. map (step_by c.args.saving c.args.plan.now) (range_with_len 0 c.loop-role.role) ++ n ∷ []) c.step.ensures
    ∙ sym (map-range_with_len_more (step_by c.args.saving c.args.plan.now) 0 c.loop-role.role c.loop-role.role (omega arith))
