-- The channel is that from the point's sender.
use Rattle.std.proofs.Common.{◌∙◌, ap}
use Rattle.std.specs.Prelude.{slice_get}
use Rattle.rcv_guide.specs.Guide.{in_channel}
use Rattle.rcv_guided.specs.Session.{SessionView}
use Rattle.rcv_guided.proofs.session.GuidedSession.front_of.Goals as goal

pub returns-clause-front : goal.returns-clause-front
returns-clause-front c =
    c.front.ensures.value ∙ ap (λ (x : SessionView). slice_get (in_channel x.guide c.sender.result c.args.told.now.role) 0) c.self.view_is
    ∙ ap (λ r. slice_get (in_channel c.args.self.now.guide r c.args.told.now.role) 0) c.sender.ensures.value
