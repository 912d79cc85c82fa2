-- What the session keeps.
use Rattle.rcv_guided.specs.Session.{SessionView}
use Rattle.rcv_guided.proofs.Sessions.{session_same, session_again}
use Rattle.rcv_guided.proofs.session.GuidedSession.restore_event.Goals as goal

pub invariant_of-self : goal.invariant_of-self
invariant_of-self c =
    let s : SessionView = record { guide = c.self.inside.guide; saves = c.self.inside.saves; incarnations = c.self.inside.incarnations.items; restored = c.self.inside.restored } in
    session_same s c.add_again.new.self c.self.invariant c.in_default.ensures.err

pub invariant_of-self-2 : goal.invariant_of-self-2
invariant_of-self-2 c =
    let s : SessionView = record { guide = c.self.inside.guide; saves = c.self.inside.saves; incarnations = c.self.inside.incarnations.items; restored = c.self.inside.restored } in
    session_again s c.add_again.new.self c.args.event.now c.self.invariant c.in-Ok.ensures.ok
