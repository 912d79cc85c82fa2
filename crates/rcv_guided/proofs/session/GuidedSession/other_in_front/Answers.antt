-- No message is the first one.
use Rattle.std.proofs.Common.{sym}
use Rattle.rcv_guided.specs.Events.{channel_of}
use Rattle.rcv_guided.proofs.Refusals.{none_first}
use Rattle.rcv_guided.proofs.session.GuidedSession.other_in_front.Goals as goal

pub returns-in_default-clause-why : goal.returns-in_default-clause-why
returns-in_default-clause-why c = none_first (channel_of c.args.self.now c.args.told.now) (sym c.in_default.ensures.front)
