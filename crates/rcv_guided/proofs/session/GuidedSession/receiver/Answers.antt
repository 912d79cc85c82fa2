-- The points are those of the text.
use Rattle.std.proofs.Common.{◌<◌, ◌≤◌, sym, ◌∙◌, ap, subst}
use Rattle.rcv_model.specs.Net.{Net}
use Rattle.rcv_model.specs.Text.{body_of}
use Rattle.rcv_model.proofs.Forms.{proper}
use Rattle.rcv_points.proofs.Whole.{same_net}
use Rattle.rcv_accept.specs.Accepted.{AcceptedView, net_for, roles_of}
use Rattle.rcv_guided.proofs.session.GuidedSession.receiver.Goals as goal

pub receiver-requires-clause-last : goal.receiver-requires-clause-last
receiver-requires-clause-last c =
    subst (λ (n : Net). c.args.point ≤ n.count) (sym (same_net (body_of c.accepted-accepted.result.now.protocol.body) _ c.points.result.now c.protocol-protocol.ensures.accepted.form c.points.ensures))
    (subst (λ (a : AcceptedView). c.args.point ≤ (net_for a).count) (sym c.accepted-accepted.ensures) c.requires.1)

pub returns-clause-value : goal.returns-clause-value
returns-clause-value c =
    c.receiver.ensures
    ∙ ap (λ (n : Net). n.receiver c.args.point) (same_net (body_of c.accepted-accepted.result.now.protocol.body) _ c.points.result.now c.protocol-protocol.ensures.accepted.form c.points.ensures)
    ∙ ap (λ (a : AcceptedView). (net_for a).receiver c.args.point) c.accepted-accepted.ensures

pub returns-clause-declared : goal.returns-clause-declared
returns-clause-declared c =
    subst (λ (a : AcceptedView). c.receiver.result < roles_of a) c.accepted-accepted.ensures
    (subst (λ r. r < roles_of c.accepted-accepted.result.now) (sym (c.receiver.ensures ∙ ap (λ (n : Net). n.receiver c.args.point) (same_net (body_of c.accepted-accepted.result.now.protocol.body) _ c.points.result.now c.protocol-protocol.ensures.accepted.form c.points.ensures)))
    ((proper (body_of c.accepted-accepted.result.now.protocol.body) _ c.protocol-protocol.ensures.accepted.form).receivers c.args.point c.requires.0 (subst (λ (a : AcceptedView). c.args.point ≤ (net_for a).count) (sym c.accepted-accepted.ensures) c.requires.1)))
