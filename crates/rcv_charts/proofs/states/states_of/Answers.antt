-- Each point of the role is one place more.
use Rattle.std.proofs.Common.{◌+◌, ◌≤◌, refl, sym, ◌∙◌, ap, subst, inl, inr, arith}
use Rattle.rcv_model.specs.Next.{IsPlaceOf}
use Rattle.rcv_model.proofs.Forms.{proper}
use Rattle.rcv_accept.specs.Accepted.{net_for, text_of, roles_of}
use Rattle.rcv_project.specs.Local.{act_at}
use Rattle.rcv_project.specs.LocalText.{is_own}
use Rattle.rcv_project.proofs.Machine.{own_act, has_place}
use Rattle.rcv_charts.specs.States.{AreMadeTo, with_place}
use Rattle.rcv_charts.proofs.Counted.{none_made, own_place, no_place}
use Rattle.rcv_charts.proofs.Together.{own_of, act_in_text}
use Rattle.rcv_charts.proofs.states.states_of.Goals.{then-is_own_place+in_ok-add-2, else-is_own_place}
use Rattle.rcv_charts.proofs.states.states_of.Goals as goal

pub loop-before-init : goal.loop-before-init
loop-before-init c =
    let net = net_for c.args.accepted.now in
    let local = c.args.local.now in
    let form = proper (text_of c.args.accepted.now) (roles_of c.args.accepted.now) c.protocol-protocol.ensures.accepted.form in
    let here : IsPlaceOf net local.role 0 = inl refl in
    let is = own_act net local.role local 0 c.requires (has_place net local.role local 0 c.requires here) here in
    none_made net local.role (act_at local 0) c.add.new.states.items (c.in_ok-add.ensures ∙ ap (with_place (act_at local 0) 0) c.new-states.ensures.items) is (act_in_text net (roles_of c.args.accepted.now) local.role 0 (act_at local 0) form is)

pub loop-before-preserved : goal.loop-before-preserved
loop-before-preserved c =
    let net = net_for c.args.accepted.now in
    let local = c.args.local.now in
    let form = proper (text_of c.args.accepted.now) (roles_of c.args.accepted.now) c.protocol-protocol.ensures.accepted.form in
    let n = c.loop-before.before in
    let low : 1 ≤ n + 1 = omega arith in
    let high : n + 1 ≤ net.count = omega (arith, c.loop-before-test.true, c.count-before-end.ensures) in
    let own = c.is_own_place.ensures ∙ ap (λ r. is_own net r (n + 1)) c.role-role.ensures in
    elim c.if-is_own_place.branch [
      | then-is_own_place+in_ok-add-2 w ↦
          let mine = sym own ∙ w.if-is_own_place.true in
          let here : IsPlaceOf net local.role (n + 1) = inr (low, high, own_of net local.role (n + 1) mine) in
          let is = own_act net local.role local (n + 1) c.requires (has_place net local.role local (n + 1) c.requires here) here in
          own_place net local.role n (act_at local (n + 1)) c.loop-before.states.items c.if-is_own_place.states.items c.loop-before.invariant mine (ap (λ states. states.items) w.states-is ∙ w.in_ok-add-2.ensures) is (act_in_text net (roles_of c.args.accepted.now) local.role (n + 1) (act_at local (n + 1)) form is)
      | else-is_own_place w ↦
          subst (λ states. AreMadeTo net local.role (n + 1) states.items) (sym w.states-is) (no_place net local.role n c.loop-before.states.items c.loop-before.invariant (sym own ∙ w.if-is_own_place.false))
    ]
