use Rattle.std.proofs.Common.{subst}
use Rattle.rcv_ring.specs.Lists.{Begins}
use Rattle.rcv_ring.specs.Shown.{Shown}
use Rattle.rcv_ring.proofs.push.Pusher.look.Goals as goal

pub returns-clause-begins : goal.returns-clause-begins
returns-clause-begins c = let P = λ (e : Shown). Begins e.taken e.sent in subst P c.self.view_is c.see_got-self-inside.ensures.begins
