-- What is stable is forgotten, and nothing more where the room is doubled.
use Rattle.std.proofs.Common.{inr}
use Rattle.rcv_guided.proofs.Forgotten.{same_grown}
use Rattle.rcv_guided.proofs.session.GuidedSession.make_room.Goals as goal

pub returns-in_ok-grow-clause-judging : goal.returns-in_ok-grow-clause-judging
returns-in_ok-grow-clause-judging c = inr (same_grown c.args.self.now c.forget_stable.new.self c.grow.new.self c.in_ok-forget_stable.ensures.same c.in_ok-grow.ensures.grown)
