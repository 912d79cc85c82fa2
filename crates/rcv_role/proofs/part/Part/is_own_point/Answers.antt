-- The points are those of the text.
use Rattle.std.proofs.Common.{rules, ◌≤◌, length, ap, ◌∙◌}
use Rattle.rcv_session.specs.Session.{net_for}
use Rattle.rcv_role.specs.Part.{PartView}
use Rattle.rcv_role.proofs.Reaching.{own_if}
use Rattle.rcv_role.proofs.part.Part.is_own_point.Goals as goal

pub returns : goal.returns
returns c =
    let last : c.args.point ≤ length c.points-points.result.now.messages = search rules in
    own_if c.args.self.now.setup c.points-points.result.now c.args.role c.args.point c.is_of.result (c.points-points.ensures ∙ ap (λ (p : PartView). net_for p.setup) c.self.view_is) c.requires.first last c.is_of.ensures
