-- The role stands at this place among the protocol's.
use Rattle.std.proofs.Common.{◌∙◌, ℕ, sym, ap, subst}
use Rattle.rcv_tree.specs.declared.protocol.Protocol.{Protocol}
use Rattle.rcv_tree.specs.Names.{place_of}
use Rattle.rcv_accept.specs.Accepted.{net_for}
use Rattle.rcv_charts.specs.Machine.{IsMachine}
use Rattle.rcv_look.proofs.Pictures.{role_drawn}
use Rattle.rcv_look.proofs.charts.draw_role.Goals as goal

pub returns : goal.returns
returns c = role_drawn c.drawn.result c.args.accepted.now.protocol c.args.name.now c.in-Some.place c.in_ok-picture.picture
    (ap (λ (p : Protocol). place_of p.roles c.args.name.now) (sym c.protocol.ensures.value) ∙ sym c.in-Some.ensures.value)
    (subst (λ (r : ℕ). IsMachine c.args.accepted.now.protocol.roles (net_for c.args.accepted.now) r c.in_ok-picture.picture) c.in_ok-local.ensures.whose c.in_ok-picture.ensures)
    c.drawn.ensures.status c.drawn.ensures.text
