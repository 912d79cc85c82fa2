-- The layout is one of the record's rows, and proper.
use Rattle.std.proofs.Common.{◌∙◌, ap}
use Rattle.rcv_session.specs.Session.{roles_of}
use Rattle.rcv_scene.proofs.Planning.{plan_is}
use Rattle.rcv_scene.proofs.journal_picture.planned.Goals as goal

pub returns-then-is_proper : goal.returns-then-is_proper
returns-then-is_proper c =
    plan_is c.args.record.now c.args.story.now c.args.rows.now c.setup-2.result.now c.setup.result.now c.in_ok-cast.cast.points.now c.entries.result.now c.in_ok-undone.undone.items
    c.in_ok-layout.layout c.widen.new.self c.roles.result c.setup-2.ensures c.setup.ensures c.in_ok-cast.ensures c.entries.ensures.value c.in_ok-undone.ensures c.in_ok-layout.ensures c.in_ok-widen.ensures
    (c.roles.ensures.value ∙ ap roles_of c.setup-3.ensures) (c.is_proper.ensures c.if-is_proper.true)
