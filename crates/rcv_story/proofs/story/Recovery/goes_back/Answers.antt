-- It goes back if its first lost event is told.
use Rattle.std.proofs.Common.{◌≡◌, ◌↔◌, subst, arith, true}
use Rattle.rcv_story.specs.Recoveries.{GoesBack}
use Rattle.rcv_story.proofs.Going.{goes_is}
use Rattle.rcv_story.proofs.story.Recovery.goes_back.Goals as goal

pub returns : goal.returns
returns c = λ entries is.
    subst (λ r. (c.is_some.result ≡ true) ↔ GoesBack entries c.args.self.now.place r) c.role.view_is
    (goes_is entries c.args.self.now c.role.inside.0 c.is_some.result (let own = c.role.view_is in let low = c.requires in omega (arith, own, low)) is c.is_some.ensures)
