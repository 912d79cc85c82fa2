-- What the session keeps.
use Rattle.rcv_guided.specs.Session.{SessionView}
use Rattle.rcv_guided.proofs.Sessions.{session_same, session_seed}
use Rattle.rcv_guided.proofs.session.GuidedSession.restore_flight.Goals as goal

pub invariant_of-self : goal.invariant_of-self
invariant_of-self c =
    let s : SessionView = record { guide = c.self.inside.guide; saves = c.self.inside.saves; incarnations = c.self.inside.incarnations.items; restored = c.self.inside.restored } in
    session_same s c.lie_again.new.self c.self.invariant c.in_default.ensures.err

pub invariant_of-self-2 : goal.invariant_of-self-2
invariant_of-self-2 c =
    let s : SessionView = record { guide = c.self.inside.guide; saves = c.self.inside.saves; incarnations = c.self.inside.incarnations.items; restored = c.self.inside.restored } in
    session_seed s c.lie_again.new.self c.args.told.now.from c.args.told.now.message c.self.invariant c.in-Ok.ensures.may c.in-Ok.ensures.ok
