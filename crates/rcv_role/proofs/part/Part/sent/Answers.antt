-- What is remembered is what the script would choose.
use Rattle.rcv_role.proofs.Parts.{remembered}
use Rattle.rcv_role.proofs.part.Part.sent.Goals as goal

pub returns-in-Some-clause-next : goal.returns-in-Some-clause-next
returns-in-Some-clause-next c = remembered _ c.args.self.now c.self.inside.tail c.self.view_is c.self.invariant.0 c.self.inside.chosen c.in-Some.event c.self.invariant.3 c.in-Some.is
