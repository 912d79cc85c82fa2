-- Nothing was told yet.
use Rattle.std.proofs.Common.{◌≡◌, length, replicate, sym, ◌∙◌, ap, subst, lit≤, arith}
use Rattle.std.proofs.lemmas.List.FromFn.{length-map-range_with_len}
use Rattle.rcv_saves.specs.Saves as saves
use Rattle.rcv_guided.specs.Session.{IsSession, step_by, steps_by}
use Rattle.rcv_guided.proofs.Begun.{begun_of, begun_session}
use Rattle.rcv_guided.proofs.session.GuidedSession.new.Goals as goal

pub invariant_of-result : goal.invariant_of-result
invariant_of-result c =
    let roles = length c.args.accepted.protocol.roles in
    let steps : c.as_slice.result.now ≡ steps_by c.args.saving c.args.plan roles = c.as_slice.ensures.value ∙ c.in_ok-steps.ensures ∙ ap (steps_by c.args.saving c.args.plan) c.roles.ensures in
    let all : c.loop-role._role ≡ roles = (let e = c.roles-role-end.ensures in let f = c.loop-role-test.false in let g = c.loop-role.auto._role-end in omega (arith, e, f, g)) in
    subst IsSession (sym (begun_of c.args.accepted.protocol c.args.plan 1024 (steps_by c.args.saving c.args.plan roles) c.in_ok-guide.guide c.in_ok-saves.saves c.loop-role.incarnations.items
    c.in_ok-guide.ensures (c.in_ok-saves.ensures ∙ ap saves.opened steps) (c.loop-role.invariant ∙ ap (λ n. replicate n 0) all)))
    (begun_session c.args.accepted.protocol c.args.plan 1024 (steps_by c.args.saving c.args.plan roles) (lit≤ tt) (length-map-range_with_len (step_by c.args.saving c.args.plan) 0 roles))

pub returns : goal.returns
returns c =
    let roles = length c.args.accepted.protocol.roles in
    let steps : c.as_slice.result.now ≡ steps_by c.args.saving c.args.plan roles = c.as_slice.ensures.value ∙ c.in_ok-steps.ensures ∙ ap (steps_by c.args.saving c.args.plan) c.roles.ensures in
    let all : c.loop-role._role ≡ roles = (let e = c.roles-role-end.ensures in let f = c.loop-role-test.false in let g = c.loop-role.auto._role-end in omega (arith, e, f, g)) in
    begun_of c.args.accepted.protocol c.args.plan 1024 (steps_by c.args.saving c.args.plan roles) c.in_ok-guide.guide c.in_ok-saves.saves c.loop-role.incarnations.items
    c.in_ok-guide.ensures (c.in_ok-saves.ensures ∙ ap saves.opened steps) (c.loop-role.invariant ∙ ap (λ n. replicate n 0) all)
