-- The points say what the text says.
use Rattle.std.proofs.Common.{◌≤◌, sym, ◌∙◌, ap, subst}
use Rattle.rcv_model.specs.Net.{Net}
use Rattle.rcv_points.proofs.Whole.{same_net}
use Rattle.rcv_accept.specs.Accepted.{text_of, roles_of}
use Rattle.rcv_project.specs.LocalText.{is_own}
use Rattle.rcv_charts.proofs.states.is_own_place.Goals as goal

pub owns-requires-clause-last : goal.owns-requires-clause-last
owns-requires-clause-last c = subst (λ n. c.args.point ≤ n) (sym (ap (λ (net : Net). net.count) (same_net (text_of c.args.accepted.now) (roles_of c.args.accepted.now) c.points.result.now c.protocol-protocol.ensures.accepted.form c.points.ensures))) c.requires.last

pub returns : goal.returns
returns c = c.owns.ensures ∙ ap (λ (net : Net). is_own net c.args.role c.args.point) (same_net (text_of c.args.accepted.now) (roles_of c.args.accepted.now) c.points.result.now c.protocol-protocol.ensures.accepted.form c.points.ensures)
