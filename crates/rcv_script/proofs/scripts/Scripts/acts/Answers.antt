use Rattle.std.proofs.Common.{get_or, ◌∙◌, ap}
use Rattle.rcv_script.proofs.Carrying.{filed, filed_points}
use Rattle.rcv_script.proofs.scripts.Scripts.acts.Goals as goal

pub at-requires-clause-last : goal.at-requires-clause-last
at-requires-clause-last c =
    let own = c.self.inside in
    let within = rw (← c.self.view_is) at c.requires.role in
    let row = c.index.ensures ∙ ap (λ q. get_or own.acts.items q c.index.result.now) c.role.view_is in
    let points = filed_points own.roles.items own.messages.items own.acts.items c.args.role _ c.self.invariant within row in
    rw points (rw (← c.self.view_is) at c.requires.point.1)

pub returns : goal.returns
returns c =
    let own = c.self.inside in
    let within = rw (← c.self.view_is) at c.requires.role in
    let row = c.index.ensures ∙ ap (λ q. get_or own.acts.items q c.index.result.now) c.role.view_is in
    let point = rw (← c.self.view_is) at c.requires.point in
    rw (← c.self.view_is) (filed own.roles.items own.messages.items own.acts.items c.args.role _ c.self.invariant
    within row c.args.point c.at.result.now point c.at.ensures)
