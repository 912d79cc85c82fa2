-- The first, and the others' number.
use Rattle.rcv_scene.proofs.Returning.{said_first}
use Rattle.rcv_scene.proofs.returns.first_text.Goals as goal

pub returns : goal.returns
returns c = said_first c.args.first c.args.others.now c.in_ok-text.text.items c.in_ok-text.ensures
